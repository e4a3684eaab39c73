pub mod Lists
pub mod Merging
pub mod Holding
pub mod Zips
pub mod States
