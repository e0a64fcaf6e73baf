-- The laws behind the proofs of this crate.
pub mod Closest
pub mod Patterns
pub mod Limits
