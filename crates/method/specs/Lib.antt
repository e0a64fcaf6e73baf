-- The definitions of this crate: the method in whole numbers, the published one over fractions, and what is promised of a run.
pub mod ReleasedBoats
pub mod Searched
pub mod Problem
pub mod Calls
pub mod Plain
pub mod Minimum
pub mod Iterates
pub mod Answers
pub mod Bounds
pub mod Fractions
pub mod Published
pub mod PublishedRun
pub mod SmallGap
pub mod BookNumbers
pub mod Promise
