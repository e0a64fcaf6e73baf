-- The laws of this crate.
pub mod Marks
pub mod Going
pub mod Numbers
pub mod Lines
pub mod Back
