-- Lemmas on trees in lent memory.
pub mod Nodes
pub mod Denote
pub mod Followed
pub mod Collected
