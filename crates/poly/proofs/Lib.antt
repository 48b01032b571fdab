-- The laws in use.
pub mod Depth
pub mod Values
pub mod Terms
pub mod Equality
pub mod Leading
pub mod Remainder
pub mod Theorems
