-- The answers of the readers, and the laws that their proofs and their callers' cite.
pub mod Refusals
pub mod Texts
pub mod Answers
pub mod Groups
pub mod Fields
pub mod Places
