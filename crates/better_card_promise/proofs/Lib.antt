-- The laws behind the promise of the better of two cards.
pub mod Distances
pub mod Bare
pub mod Choosing
