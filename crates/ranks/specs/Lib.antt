-- The rank words; the law that their order is document 01's is in proofs/Law.antt.
pub mod Words
pub mod Biased
pub mod Digits
pub mod Classes
pub mod Law
pub mod Ranges
pub mod Bits
pub mod Cases
