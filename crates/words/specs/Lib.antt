-- What a slice of words reads as.
pub mod Joined
pub mod Kind
pub mod Quantifier
pub mod Reading
pub mod Words
