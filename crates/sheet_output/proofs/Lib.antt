-- The laws behind the proofs of this crate.
pub mod Bits
pub mod Values
pub mod EachByte
pub mod Back
pub mod Front
pub mod Placing
pub mod Writing
