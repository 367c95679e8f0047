-- What the calls of this crate promise, as theorems.
pub mod Unique
pub mod Itself
