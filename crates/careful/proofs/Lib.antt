pub mod Halves
pub mod Roots
pub mod Judge
pub mod Nearest
pub mod Unique
pub mod Examples
