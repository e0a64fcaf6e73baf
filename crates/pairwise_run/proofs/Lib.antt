-- The laws behind the proofs of this crate.
pub mod Factors
pub mod Fleet
pub mod Limited
