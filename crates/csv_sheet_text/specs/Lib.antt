-- The definitions of this crate.
pub mod Lines
pub mod Numbered
