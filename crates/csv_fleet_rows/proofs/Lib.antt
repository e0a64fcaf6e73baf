-- The laws of this crate.
pub mod Kept
pub mod Counting
pub mod Rows
pub mod Texts
