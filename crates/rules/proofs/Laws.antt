-- Laws about the definitions, which the demands and the other crates' proofs cite.
pub mod Identical
pub mod Tagged
pub mod InRankOrder
pub mod Moves
pub mod Groups
pub mod FieldHalves
pub mod Written
pub mod WrittenEvents
