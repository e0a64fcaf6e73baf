-- The definitions of this crate, bytes first.
pub mod Limits
pub mod Bytes
pub mod Book
pub mod Sheet
pub mod Fits
pub mod Front
pub mod Editions
