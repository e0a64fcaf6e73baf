-- The definitions of this crate.
pub mod Rounds
pub mod Queue
pub mod Alike
pub mod Promise
