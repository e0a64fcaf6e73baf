-- The laws behind the proofs of this crate.
pub mod Plain
pub mod Derived
pub mod Steps
pub mod Records
