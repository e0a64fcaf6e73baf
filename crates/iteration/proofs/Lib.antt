-- The laws behind the proofs of this crate: what states hold, what the steps need, and the answer of a mixture and of a state.
pub mod States
pub mod Steps
pub mod Measuring
pub mod Moves
pub mod Mixed
pub mod Answering
pub mod First
