-- What the calls of this crate promise, as theorems; how they end; and the laws of a finding, and of a bin at its place.
pub mod Ends
pub mod Findings
pub mod Places
pub mod Unique
