-- The laws behind the proofs of this crate, and what other crates use of them.
pub mod Factors
