-- Laws of a stored result, for the proofs of the functions.
pub mod Openings
pub mod Stretches
pub mod Views
