-- The definitions of this crate.
pub mod Outcomes
pub mod Sheets
pub mod Promise
