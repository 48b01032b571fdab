-- Definitions that the contracts cite.
pub mod OneProof
pub mod Told
pub mod Cells
pub mod Fitting
pub mod Settling
pub mod Moving
pub mod Reals
pub mod Foreseeing
pub mod SoundLaws
pub mod Derived
pub mod Loading
