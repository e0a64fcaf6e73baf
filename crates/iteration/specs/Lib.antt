-- The definitions of this crate.
pub mod States
pub mod Moves
pub mod Measures
