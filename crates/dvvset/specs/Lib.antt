pub mod Limits
pub mod Clock
pub mod Listing
pub mod Laws
