-- What a walk over a heap's nodes in the order of ranks finds and counts, while their tags hold.
pub mod Drained
pub mod Copies
pub mod Slots
