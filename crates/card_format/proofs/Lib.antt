-- The laws behind the proofs of this crate: laws of the bytes of a card, and what an accepted or a written card vouches for.
pub mod Pairs
pub mod Trailer
pub mod Accepted
pub mod Shares
pub mod RunCards
pub mod Vouches
pub mod Editions
pub mod Front
pub mod Counted
pub mod Isolated
pub mod Filing
pub mod Checking
pub mod Written
