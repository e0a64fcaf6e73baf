-- The definitions of this crate.
pub mod Cells
pub mod Promise
pub mod Examples
