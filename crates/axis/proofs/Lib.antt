-- Laws on edges, the bin rule, the search and the draw; and each call's totality and uniqueness.
pub mod Lists
pub mod Bins
pub mod Searches
pub mod Fresh
pub mod Points
pub mod Unique
