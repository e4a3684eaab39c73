pub mod Walks
pub mod Appends
pub mod Saves
pub mod Reopens
