-- Lemmas.
pub mod Telling
pub mod Settled
pub mod Moved
pub mod Realness
pub mod Foreseen
pub mod Sounds
pub mod Deriving
