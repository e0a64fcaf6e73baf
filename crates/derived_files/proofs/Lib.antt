-- The laws behind the proofs of this crate.
pub mod Columns
pub mod Repeating
pub mod Rows
pub mod Files
pub mod Bytes
