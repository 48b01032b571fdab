-- What the reader's answers say.
pub mod Outcome
pub mod Sheet
pub mod Reads
pub mod Row
pub mod Claims
pub mod Prefix
pub mod Sentence
