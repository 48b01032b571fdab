-- Lemmas on tables that take rows one by one.
pub mod Outcome
pub mod Along
pub mod Flow
pub mod Chain
pub mod Fold
pub mod Plan
pub mod Resume
