-- What the calls of this crate promise, as theorems.
pub mod Runs
pub mod Unique
