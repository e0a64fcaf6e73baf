-- The definitions of this crate.
pub mod Format
pub mod Written
pub mod Checks
pub mod Truth
pub mod Front
pub mod Filing
pub mod Checking
