-- The laws behind the proofs of this crate.
pub mod Counting
pub mod Adding
pub mod Refusing
