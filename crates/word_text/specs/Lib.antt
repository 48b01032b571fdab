-- What a text of words reads as, and the line that answers it.
pub mod Scan
pub mod Answer
