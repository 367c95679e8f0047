-- The doubles that definitions name, and what definitions and laws say of all of them.
pub mod Numbers
pub mod Finite
pub mod Inverse
pub mod Whole
pub mod Count
pub mod Bound
pub mod Split
pub mod Paper
pub mod Refusal
pub mod Total
