-- The tree of a table made step by step, by a machine with a stack of open questions, and what is promised of it.
pub mod Machine
pub mod Counts
pub mod Stacks
pub mod Theorems
