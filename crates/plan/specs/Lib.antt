-- What a plan is: its numbers and their ranges, its fields, its tree, its bytes, its table, and what each call answers.
pub mod Numbers
pub mod Ranges
pub mod Plan
pub mod Needs
pub mod Judged
pub mod Fields
pub mod Reading
pub mod Table
pub mod Bytes
pub mod Walk
pub mod Bounds
pub mod Writing
pub mod Paper
pub mod Calls
