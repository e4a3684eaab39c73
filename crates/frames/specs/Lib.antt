pub mod Taking
pub mod Writing
