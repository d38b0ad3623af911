-- The index: what it holds between events, and what joining and parting change.
pub mod Filed
pub mod Mine
pub mod Nodes
pub mod Loops
pub mod Across
pub mod Keeps
pub mod Leads
pub mod Index
pub mod Changes
pub mod Asked
pub mod Joining
pub mod Parting
pub mod Apart
pub mod Rows
pub mod Unique
pub mod Elsewhere
pub mod Structs
