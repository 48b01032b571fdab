-- Lemmas on lists of monomials, and the theorems.
pub mod Tests
pub mod Integers
pub mod Coefficients
pub mod Rises
pub mod Merges
pub mod Split
pub mod Canons
pub mod Flat
pub mod Sums
pub mod Variables
pub mod Leads
pub mod Checks
pub mod Modests
pub mod Steps
pub mod CellTrips
pub mod Bounds
pub mod Laws
