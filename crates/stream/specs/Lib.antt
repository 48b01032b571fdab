-- Tables whose rows are never stored: what a table does with each row of the one within it, and a chain of such tables.
pub mod Stage
pub mod Step
pub mod Chain
pub mod Fold
pub mod Resume
pub mod Theorems
