-- Lemmas on readers and on what texts read as.
pub mod Fronts
pub mod Misfits
pub mod Runs
pub mod Tokens
