-- Where a bin of a bins grid stands in lent memory.
pub mod Bins
