-- The laws behind the promises of this crate.
pub mod Rows
pub mod Mixtures
pub mod Book
pub mod Promise
pub mod Search
