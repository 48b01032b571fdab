-- What the code's values stand for.
pub mod Known
pub mod AtMost
pub mod Signs
pub mod Filling
pub mod Cells
pub mod Leaving
pub mod Taken
pub mod Reached
pub mod Joined
