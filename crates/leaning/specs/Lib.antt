-- The definitions of this crate.
pub mod Report
pub mod Slots
pub mod Promise
pub mod Examples
