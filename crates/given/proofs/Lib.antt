-- What the proofs of the code cite.
pub mod Laws
