-- The definitions of this crate.
pub mod Parts
pub mod Ready
