-- Rows of nodes over lent slices, sorted by rank: the place before, what slides down when a node leaves, and where a word begins.
pub mod Places
pub mod Slides
pub mod Halves
pub mod Words
pub mod Shifts
pub mod Points
