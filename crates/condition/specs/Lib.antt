-- Conditions in the arrays of a room, and the laws that the proofs cite, here and in `identity` and `closing`.
pub mod Compare
pub mod Measures
pub mod From
pub mod StoredFrom
pub mod Closed
pub mod Along
pub mod Truth
pub mod Tags
pub mod Closing
pub mod Slots
pub mod Closes
pub mod Board
