-- The laws behind the proof of this crate.
pub mod Working
