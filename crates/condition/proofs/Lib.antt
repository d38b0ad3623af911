-- What the proofs of more than one function cite, and those of other crates.
pub mod Products
pub mod Laws
