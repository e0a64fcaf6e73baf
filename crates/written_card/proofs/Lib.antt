-- The laws behind the proof of this crate: what the card writer needs.
pub mod Filing
