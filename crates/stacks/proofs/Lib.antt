-- What is read after a write.
pub mod Puts
pub mod Trips
pub mod Fronts
pub mod Spelling
pub mod Holding
