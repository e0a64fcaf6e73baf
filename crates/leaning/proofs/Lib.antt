-- The laws behind the promises of this crate, and those of counts, lines and slots that the code's proofs cite.
pub mod Counts
pub mod Leading
pub mod Lengths
pub mod Parts
pub mod Checking
pub mod Reporting
pub mod Examples
