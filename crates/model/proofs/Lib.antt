-- Theorems on the model: what each call does to an axis's edges, and to its bin counts; and that a drawn sample has its grid's form.
pub mod Edges
pub mod Counts
pub mod Drawn
