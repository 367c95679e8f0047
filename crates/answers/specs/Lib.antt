pub mod List
pub mod Replayed
