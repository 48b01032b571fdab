-- Polynomials as lists of monomials with keys, what is computed with the lists, and what is promised of it.
pub mod Monomial
pub mod Operations
pub mod LeadingTerms
pub mod ModestTerms
pub mod DivisionTerms
pub mod Cells
pub mod Canon
pub mod Sizes
pub mod Theorems
