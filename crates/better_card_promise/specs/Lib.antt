-- The definitions of this crate.
pub mod Choices
pub mod Promise
