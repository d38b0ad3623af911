-- Wait over the room's arrays: what it stores where nobody looks, and that it is the rules' step.
pub mod Stored
pub mod Waits
pub mod Begins
