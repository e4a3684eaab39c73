pub mod Frames
pub mod Trials
