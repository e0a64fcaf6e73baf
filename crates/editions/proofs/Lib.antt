-- The laws behind the promise of a conversion.
pub mod Again
pub mod Converting
pub mod Rewriting
