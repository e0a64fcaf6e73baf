-- The definitions of this crate.
pub mod Derived
pub mod Accepted
pub mod Places
