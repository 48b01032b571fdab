-- Lemmas on values, slopes and roots.
pub mod Quotient
pub mod Attained
pub mod FirstRoot
pub mod Monotone
pub mod FarOut
pub mod Inside
pub mod Split
pub mod NotZeroAllOver
pub mod NoJump
pub mod Analysis
