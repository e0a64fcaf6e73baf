-- The laws behind the proofs of this crate, and those of outcomes that search_listing and card_listing use.
pub mod Listings
pub mod Outcomes
pub mod Example
