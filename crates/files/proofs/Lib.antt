-- The laws behind the proofs of this crate, and those that other crates use of numbers, rows, refusals and accepted files.
pub mod Numbers
pub mod Letters
pub mod Values
pub mod Rows
pub mod Fields
pub mod Refusal
pub mod Bytes
pub mod Access
pub mod Accepted
pub mod Front
pub mod Editions
pub mod Forms
