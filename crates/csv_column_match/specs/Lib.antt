-- The definitions of this crate.
pub mod Misfits
pub mod Match
pub mod Matched
