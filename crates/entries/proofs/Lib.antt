-- The laws that the proof of the search over the jobs cites.
pub mod Laws
