-- What the calls of this crate promise, as theorems, and the laws of what they do to a grid's own.
pub mod Next
pub mod Own
pub mod Refused
pub mod Unique
