-- Document 01 as definitions, a file a subject, in the order of the document. Then, apart from them, the examples of the
-- board, laws about the definitions, and what the rules promise (the demands).
pub mod Base
pub mod Limits
pub mod Number
pub mod Condition
pub mod Tag
pub mod Rank
pub mod Room
pub mod Search
pub mod Step
pub mod Record
pub mod Writer
pub mod Tally
pub mod Listing
pub mod Examples
pub mod Laws
pub mod Demands
