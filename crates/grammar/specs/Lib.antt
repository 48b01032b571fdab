-- What a text reads as.
pub mod Refusal
pub mod Reader
pub mod Characters
pub mod Tokens
pub mod Meaning
pub mod Terms
pub mod Formulas
pub mod Nesting
pub mod Text
pub mod RefusedForGood
