-- The laws of this crate.
pub mod Telling
pub mod Unnamed
