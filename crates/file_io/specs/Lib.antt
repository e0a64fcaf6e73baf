-- The definition of this crate.
pub mod Counts
