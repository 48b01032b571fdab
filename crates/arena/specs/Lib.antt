-- How an arena's numbers change, and which of them stand.
pub mod Growth
pub mod Standing
