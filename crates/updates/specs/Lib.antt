-- The update of a grid's own numbers, once its run of the plan's table is read, and what refuses an update.
pub mod Own
pub mod Refused
