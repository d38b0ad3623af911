-- Where a tag is filed in the index, what its rank words are, and what a home says of the tags filed there.
pub mod Homes
pub mod Words
pub mod Thresholds
pub mod Kinds
pub mod Bands
pub mod Filed
