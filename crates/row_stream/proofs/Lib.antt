-- Lemmas on rows of signs.
pub mod Places
pub mod Fill
pub mod Links
pub mod Tallies
