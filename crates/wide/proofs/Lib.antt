-- Lemmas on lists of monomials in lent memory.
pub mod Pairs
pub mod Written
pub mod Merging
pub mod Bounds
pub mod Multiplying
pub mod Factors
pub mod Slopes
pub mod Rising
