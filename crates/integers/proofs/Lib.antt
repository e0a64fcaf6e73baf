-- The laws behind the proofs of this crate: the ring, the solver, order, bounds for machine integers, and lists filled slot by slot.
pub mod Ring
pub mod Solver
pub mod Order
pub mod Facts
pub mod Bounds
pub mod Examples
pub mod Filling
