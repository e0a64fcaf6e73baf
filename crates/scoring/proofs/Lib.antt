-- The laws behind the proofs of this crate: passes over the rows, scans for the least number, moved scores, and the search for a boat that holds shares.
pub mod Passes
pub mod Scans
pub mod ProductScan
pub mod Rescores
pub mod Picking
