-- The answers of readers and searches, and tags, as plain numbers.
pub mod Answers
pub mod Heads
pub mod Searches
pub mod Tags
