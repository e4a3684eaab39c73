pub mod Journals
pub mod Buffers
