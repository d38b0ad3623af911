-- Nodes in lent slices: ranks as numbers, what places hold by counting, an order but for a hole, the moves of a hole, and a node that rises.
pub mod Ranks
pub mod Counts
pub mod Order
pub mod Holes
pub mod Rises
pub mod Finds
pub mod Sorted
pub mod Structs
