-- Lemmas on what words read as.
pub mod Words
