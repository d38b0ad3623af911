-- Who waits, who leads an entry, what the searches over the jobs find, and what joining and parting change.
pub mod Entries
pub mod Firsts
pub mod Alike
pub mod Renames
pub mod Changes
pub mod Oldest
pub mod Joins
pub mod Shares
pub mod Parts
pub mod Passes
pub mod Unique
pub mod Settled
