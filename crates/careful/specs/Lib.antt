pub mod Digits
pub mod Root
