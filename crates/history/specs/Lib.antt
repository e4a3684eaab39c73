pub mod Events
pub mod Calls
pub mod Shown
pub mod Machine
pub mod Clocks
pub mod Refines
pub mod Sanity
pub mod Scenarios
