-- What it means that a polynomial is stored.
pub mod Storing
pub mod Spans
pub mod Denoting
pub mod Dividing
