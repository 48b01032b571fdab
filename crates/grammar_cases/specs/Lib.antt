-- The examples.
pub mod Cases
