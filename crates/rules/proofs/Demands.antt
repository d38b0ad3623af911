-- What the rules promise: document 01's demands, proved of the step machine. The code's contracts carry them over.
pub mod Calls
pub mod Relay
pub mod Tickets
pub mod Ranks
pub mod Invariant
pub mod Answers
pub mod Searches
pub mod Reached
pub mod Listings
pub mod Writes
