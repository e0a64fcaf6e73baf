-- The laws behind the statements of this crate.
pub mod Figures
pub mod Reading
pub mod Saying
