-- What the tests of the parts of a file give back.
pub mod Reasons
