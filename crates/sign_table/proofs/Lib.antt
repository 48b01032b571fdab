-- Lemmas on tables of signs.
pub mod Along
pub mod Covers
pub mod Facts
pub mod Lefts
pub mod Headed
pub mod Merge
pub mod Between
pub mod Deduce
pub mod Leadings
pub mod Table
pub mod TableDepth
