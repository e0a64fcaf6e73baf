-- The laws of this crate.
pub mod Looking
pub mod Mismatches
pub mod Positions
pub mod Matching
