-- The laws behind the proofs of this crate.
pub mod Resting
pub mod Judging
