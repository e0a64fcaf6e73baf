-- The laws of this crate.
pub mod Keeping
pub mod Fronts
