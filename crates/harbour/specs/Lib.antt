-- The host's library: what its numbers mean, and that its calls keep the three demands.
pub mod Rooms
pub mod Openings
pub mod Reports
pub mod Tallies
pub mod Looks
pub mod Alike
pub mod Events
pub mod Demands
