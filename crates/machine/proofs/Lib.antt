-- Lemmas on the machine.
pub mod Settles
pub mod Denotes
pub mod Ends
pub mod Related
pub mod Outline
pub mod Counting
pub mod Collected
pub mod FirstSuffice
pub mod Elimination
pub mod Theorems
pub mod Agree
pub mod StackSteps
pub mod Bounds
pub mod Advances
