-- Signed numbers in the machine.
pub mod Machine
pub mod Mapping
pub mod Sums
