-- The definitions of this crate.
pub mod Tokens
pub mod Cells
