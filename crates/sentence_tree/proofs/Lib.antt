-- Lemmas on terms stored.
pub mod Stored
pub mod Joined
pub mod Evaluated
