-- The definitions of this crate: figures, lines of them, and what a text holds.
pub mod Decimal
pub mod Lines
pub mod Texts
