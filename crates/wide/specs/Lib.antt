-- Lists of monomials in lent memory, and how two are merged.
pub mod Pairs
pub mod Written
pub mod Merging
pub mod Multiplying
pub mod Slopes
