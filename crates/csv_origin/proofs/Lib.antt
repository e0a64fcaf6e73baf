-- The laws behind the proofs of this crate.
pub mod Books
pub mod Sheets
