-- A whole stream's listing, written into a lent buffer.
pub mod Output
pub mod Decimal
pub mod Lines
pub mod Turns
pub mod Runs
pub mod Streams
pub mod Few
pub mod Bound
