-- What the definitions of all crates give, computed: the scope document's starred examples, and histories of grids, held against the oracle's words.
pub mod Table
pub mod Dump
pub mod Story
pub mod Cases
