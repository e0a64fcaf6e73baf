-- The definitions of this crate.
pub mod Readings
pub mod Patterns
