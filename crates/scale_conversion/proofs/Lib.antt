-- The laws behind the proofs of this crate.
pub mod Outcomes
pub mod Converting
pub mod Entry
