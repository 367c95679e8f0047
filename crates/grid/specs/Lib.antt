-- What the three demands say.
pub mod Address
pub mod Fresh
pub mod History
pub mod Demand3
pub mod Lent
pub mod Order
pub mod Fields
pub mod Demand1
pub mod Programs
pub mod Batch
pub mod Leaves
