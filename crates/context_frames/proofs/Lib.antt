pub mod Walks
pub mod Lays
