-- The definitions of this crate.
pub mod Passes
