pub mod Mantissa
pub mod Floors
pub mod Ranges
pub mod Unique
pub mod Examples
