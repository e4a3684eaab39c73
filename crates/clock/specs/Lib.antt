pub mod Memory
pub mod Calls
pub mod Views
