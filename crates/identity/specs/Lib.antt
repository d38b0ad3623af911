-- The laws that the proofs cite: what two conditions in their slots must have in common.
pub mod Identity
