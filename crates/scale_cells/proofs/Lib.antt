-- The laws behind the proofs of this crate.
pub mod Judging
pub mod Values
pub mod Examples
