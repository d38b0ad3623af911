-- Heaps over lent slices: the places above and below, and a node that sinks.
pub mod Places
pub mod Sinks
pub mod Roots
pub mod Drains
