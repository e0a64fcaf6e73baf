-- The laws behind the proofs of this crate: the memory of products, runs state by state, and what the loop keeps.
pub mod Memory
pub mod Runs
pub mod Keeping
