-- The laws behind the promise of this crate.
pub mod Rounds
pub mod Levels
pub mod Fair
pub mod Alone
pub mod Parts
pub mod Refusals
pub mod Records
pub mod Alike
pub mod Promise
pub mod Marked
