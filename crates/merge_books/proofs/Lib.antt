-- The laws behind the proofs of this crate.
pub mod Bytes
pub mod Looking
pub mod Putting
pub mod Merging
pub mod Written
