-- The laws of this crate.
pub mod Slots
pub mod Holding
