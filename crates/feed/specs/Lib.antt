-- The integration, turn by turn: what stands in its bytes, what a turn answers, and what it leaves in lent memory.
pub mod Said
pub mod Fields
pub mod Turns
