-- What the machine's arrays hold, and which memory of the machine they are.
pub mod Written
pub mod Values
pub mod Slots
pub mod Spelt
pub mod Memories
pub mod SlotLaws
