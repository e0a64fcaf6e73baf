-- The laws of this crate.
pub mod Going
pub mod Rows
pub mod Back
