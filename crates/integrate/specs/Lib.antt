-- What the program prints, and the turns that it makes.
pub mod Lines
pub mod Pouring
