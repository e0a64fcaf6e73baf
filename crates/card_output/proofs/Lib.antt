-- The laws behind the proofs of this crate: laws of bytes placed in a buffer.
pub mod Placing
