-- The definitions of this crate: the generator, the rows it draws, and the files and damage made of them.
pub mod Draws
pub mod Rows
pub mod Files
