-- The answers of the readers, and the laws that their proofs cite.
pub mod Into
pub mod Numbers
pub mod Rows
pub mod Openings
pub mod Heads
pub mod WaitSlots
pub mod Givens
pub mod Waits
pub mod Events
