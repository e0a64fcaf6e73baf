-- The laws behind the proofs of this crate.
pub mod Columns
pub mod Digits
