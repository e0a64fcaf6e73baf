-- The laws behind the proofs of this crate: what a refusal of a card gives, and texts with the parts of its line.
pub mod Refused
pub mod Lines
