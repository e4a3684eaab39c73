pub mod Walks
pub mod ValuesRead
pub mod FieldsMerged
pub mod Merges
pub mod Loads
pub mod Writes
