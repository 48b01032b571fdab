-- Lemmas on stored polynomials.
pub mod Places
pub mod StoredTest
pub mod Lowered
pub mod Leading
pub mod Signed
pub mod Compared
pub mod Walked
