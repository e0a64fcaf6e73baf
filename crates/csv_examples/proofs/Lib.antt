-- The texts and their tokens.
pub mod Examples
