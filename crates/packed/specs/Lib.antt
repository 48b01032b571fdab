-- Which numbers are stored polynomials, and what their monomials are.
pub mod Stored
pub mod Terms
pub mod StretchTerms
pub mod Signed
pub mod Same
