-- Lemmas on modest lists and their cells.
pub mod ModestSteps
pub mod Cells
pub mod Denoting
pub mod Dividing
