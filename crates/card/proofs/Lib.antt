-- The laws behind the proofs of this crate: what the card check needs.
pub mod Checking
