-- Sentences without quantifiers: their trees of questions, and their answers.
pub mod Ground
pub mod Outline
