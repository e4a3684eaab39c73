pub mod Labels
pub mod Parsing
