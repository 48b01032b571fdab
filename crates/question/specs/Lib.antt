-- Trees of questions in lent memory: what a number stands for, and what a tree denotes.
pub mod Cells
pub mod Nodes
pub mod Numbers
pub mod Denote
pub mod Follow
pub mod Collect
