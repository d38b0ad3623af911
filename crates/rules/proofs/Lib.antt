-- What is proved of the definitions of specs/: laws, and what the rules promise.
pub mod Laws
pub mod Demands
