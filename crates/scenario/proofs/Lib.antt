pub mod Padded
pub mod Cut
pub mod Numbers
pub mod Taken
