pub mod Fronts
pub mod Listed
pub mod Sent
pub mod Held
pub mod Contexts
pub mod Giving
pub mod Rising
pub mod Accepted
