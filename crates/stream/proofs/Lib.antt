-- Laws that belong to no one function.
pub mod Fills
pub mod Units
pub mod Walks
pub mod Unique
