-- The definitions of this crate.
pub mod Plans
pub mod Counts
pub mod Outcomes
pub mod Work
