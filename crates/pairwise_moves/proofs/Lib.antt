-- The laws behind the proofs of this crate: the numbers of a move, the list of the boats that hold shares, the scan for a move's two
-- boats, the memory of products, scores moved by it, and the loop of the moves.
pub mod Numbers
pub mod Listing
pub mod Leading
pub mod Remembering
pub mod Rescoring
pub mod Rows
pub mod Working
