-- The laws behind the proofs of this crate.
pub mod First
pub mod Order
