-- The laws behind the proofs of this crate, which those of the other test crates use too.
pub mod Putting
pub mod Sums
