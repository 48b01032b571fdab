-- That a sentence's answer is right, from formulas' trees to quantifiers.
pub mod AskNothing
pub mod FormulaTree
pub mod Asked
pub mod RowAnswer
pub mod Eliminate
pub mod Decide
pub mod Words
