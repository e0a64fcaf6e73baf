-- The law behind the proofs of this crate.
pub mod Numbers
