-- What the proofs of the writer cite.
pub mod Numbers
pub mod Puts
pub mod Rows
pub mod Givens
pub mod Events
pub mod Openings
pub mod Whole
pub mod Short
