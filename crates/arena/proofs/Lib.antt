-- Lemmas on an arena's numbers.
pub mod Stores
