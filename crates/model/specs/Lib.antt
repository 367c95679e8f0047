-- The grids and their calls, in the Rust's words and order of operations.
pub mod Axes
pub mod Grid
pub mod Sound
pub mod Draw
pub mod Probe
pub mod Train
pub mod Merge
pub mod Update
