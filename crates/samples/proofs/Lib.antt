-- What the calls of this crate promise, as theorems; the law of the bins that are tried.
pub mod Unique
pub mod Tries
