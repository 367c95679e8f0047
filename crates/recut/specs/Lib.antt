-- An axis's update on plain lists, in the Rust's order of operations: what gathers, what becomes of the importances, the re-cut, the call.
pub mod Pairs
pub mod Gather
pub mod Weights
pub mod Cut
pub mod Renew
pub mod Chances
