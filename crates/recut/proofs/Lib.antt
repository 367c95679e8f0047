-- Laws that belong to no one function, and the calls' totality and uniqueness.
pub mod Writes
pub mod Pairs
pub mod Counts
pub mod Smooth
pub mod Totals
pub mod Shares
pub mod Walks
pub mod Cuts
pub mod Finite
pub mod Stages
pub mod Laws
pub mod Unique
