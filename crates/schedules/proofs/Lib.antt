-- The laws behind the proofs of this crate: what a schedule that is lent or not comes to, and the test of a table.
pub mod Lent
pub mod Tables
