-- What it is for a term's polynomial to be stored.
pub mod Placed
pub mod Operations
pub mod Operands
pub mod Evaluated
