-- Thirty-four homes in one array: the places of each, and what putting a node into one, or taking it out, leaves of the others.
pub mod Orders
pub mod Regions
pub mod Moves
