-- How a sentence is decided, quantifier by quantifier, and what is promised of it.
pub mod FormulaTree
pub mod Asked
pub mod RowAnswer
pub mod Eliminate
pub mod Decide
pub mod Answer
pub mod Theorems
