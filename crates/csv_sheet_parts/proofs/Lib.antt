-- The laws of this crate.
pub mod Bounds
pub mod Putting
pub mod Editions
