-- Lemmas on outlines and trees.
pub mod Values
pub mod Counts
pub mod Followed
