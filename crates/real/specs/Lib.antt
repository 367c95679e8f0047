pub mod Ln
pub mod Power
