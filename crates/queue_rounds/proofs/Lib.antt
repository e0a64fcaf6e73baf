-- The laws behind the proofs of this crate.
pub mod Turns
pub mod Passes
pub mod Serving
pub mod Sheets
pub mod Judging
pub mod Works
pub mod Clearing
pub mod Ends
