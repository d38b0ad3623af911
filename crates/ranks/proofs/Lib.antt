-- The law that the order of the rank words is document 01's.
pub mod Law
