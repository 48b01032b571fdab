-- What a reader must believe: signs, real closed fields, sentences and when they hold; and the laws that follow.
pub mod Sign
pub mod Field
pub mod Order
pub mod Sentence
pub mod Laws
