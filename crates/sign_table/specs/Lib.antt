-- Tables of signs of polynomials: how one is made, with questions about the other variables' signs, and what it is for one to be right.
pub mod Tree
pub mod Facts
pub mod Leadings
pub mod Deduce
pub mod Table
pub mod Meaning
pub mod Right
pub mod Theorems
