-- The definitions of this crate.
pub mod Merging
pub mod Mixtures
pub mod Promise
pub mod Search
