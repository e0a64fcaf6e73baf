-- The definitions of this crate.
pub mod Moves
pub mod Worked
pub mod Marked
pub mod Twin
pub mod Call
