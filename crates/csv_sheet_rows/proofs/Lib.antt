-- The laws behind the proofs of this crate.
pub mod First
pub mod KindNumbers
pub mod RowKinds
pub mod Reading
pub mod Soundness
pub mod Findings
