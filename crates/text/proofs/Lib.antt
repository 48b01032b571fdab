-- Lemmas on the exits of readers, names and sheets.
pub mod Exits
pub mod Positions
pub mod Sheets
pub mod Powers
pub mod Steps
pub mod Chains
pub mod Prefixes
pub mod Rows
