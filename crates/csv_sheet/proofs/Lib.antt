-- The laws of this crate.
pub mod Making
pub mod Accepting
