-- Lemmas on texts of numbers.
pub mod Scanned
