-- The laws of this crate.
pub mod Exchange
pub mod Foremost
pub mod Moves
pub mod Worked
pub mod Marked
pub mod Twin
pub mod Loop
pub mod Call
