-- The laws of repeated columns that other crates use.
pub mod Repeating
