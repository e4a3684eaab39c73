pub mod Places
pub mod Gifts
pub mod Keys
pub mod Saves
pub mod Sessions
