-- A Wait's slots hold the condition that was read, and the room's measures are those of the rules.
pub mod Givens
pub mod Slots
pub mod Atoms
pub mod Back
pub mod Reads
pub mod Taken
pub mod Nows
pub mod Same
