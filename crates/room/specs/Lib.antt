-- The room: what it is, what it keeps, and each event.
pub mod Arrays
pub mod Rooms
pub mod Codes
pub mod Stores
pub mod Kept
pub mod Standings
pub mod Calls
pub mod Tickets
pub mod Stands
pub mod Reports
pub mod Steps
pub mod Arrives
pub mod Assigns
pub mod Searches
pub mod Occupied
pub mod Joins
