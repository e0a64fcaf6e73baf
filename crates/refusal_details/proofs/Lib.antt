-- The laws of this crate.
pub mod Scan
pub mod Refused
pub mod Lines
