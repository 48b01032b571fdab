-- The laws in use.
pub mod Ring
pub mod Signs
pub mod Order
pub mod Whole
pub mod Laws
