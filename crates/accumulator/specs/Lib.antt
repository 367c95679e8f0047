-- What the accumulator is, what each step does to it, and what each call answers.
pub mod Record
pub mod Steps
pub mod Update
pub mod Calls
pub mod Ended
