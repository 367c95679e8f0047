-- Laws on the record that belong to no one function, and the calls' totality and uniqueness.
pub mod Counts
pub mod Accepted
pub mod Processed
pub mod Ended
pub mod Laws
pub mod Unique
