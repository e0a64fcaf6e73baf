-- The laws of this crate.
pub mod Steps
pub mod Past
pub mod Places
pub mod Celling
pub mod Widths
pub mod Scans
