-- The definitions of this crate.
pub mod Rewritten
pub mod Rewriting
pub mod Outcomes
pub mod Promise
