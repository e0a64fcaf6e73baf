-- The laws behind the proofs of this crate: the residual of a list of shares, and its answer.
pub mod Residuals
pub mod Answering
