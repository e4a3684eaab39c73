pub mod Media
pub mod Slots
pub mod Runs
