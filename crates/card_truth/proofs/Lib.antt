-- The laws behind the proofs of this crate: the tests of a card's total and numbers, and what refuses a card of right form.
pub mod Testing
pub mod Judging
