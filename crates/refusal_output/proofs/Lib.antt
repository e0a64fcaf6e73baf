-- The laws behind the proofs of this crate and of the programs that tell a refusal.
pub mod Numbers
