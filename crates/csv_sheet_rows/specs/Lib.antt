-- The definitions of this crate.
pub mod Numbers
pub mod Kinds
pub mod Findings
pub mod Rows
pub mod Sound
