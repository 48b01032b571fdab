-- Polynomials in n variables with whole coefficients, what is computed with them, and what is promised of it.
pub mod Poly
pub mod Arithmetic
pub mod Leading
pub mod Modest
pub mod Division
pub mod Value
pub mod Theorems
