-- What a walk over nodes finds and counts, and what is left of it on the way.
pub mod Walks
pub mod Slots
