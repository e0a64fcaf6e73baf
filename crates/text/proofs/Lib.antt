-- The laws behind the proofs of this crate, and those of figures and texts that other crates use.
pub mod Decimals
pub mod Texts
