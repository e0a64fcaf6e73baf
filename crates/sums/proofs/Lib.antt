-- The laws behind the proofs of this crate: sums over columns, squares, the move of a residual, gaps and differences.
pub mod Sums
pub mod Squares
pub mod Moves
pub mod Gaps
pub mod Differences
pub mod Blocks
