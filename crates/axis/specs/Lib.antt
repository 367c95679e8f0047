-- One axis: its edges and the bin rule, the search, what a probe and a draw give, and its columns of bins.
pub mod Edges
pub mod Search
pub mod Scans
pub mod Calls
