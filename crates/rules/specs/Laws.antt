-- Laws about the definitions, which the demands and the other crates' proofs cite.
pub mod In
pub mod Order
pub mod Least
pub mod Waiting
pub mod Stores
pub mod Rearranged
pub mod InRankOrder
pub mod Moves
pub mod Bounds
pub mod Cases
pub mod Readers
pub mod Groups
pub mod Halves
pub mod Written
pub mod WrittenEvents
pub mod WellFormed
