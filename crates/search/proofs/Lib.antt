-- The laws behind the proofs of this crate: the outcomes of the entry.
pub mod Entry
