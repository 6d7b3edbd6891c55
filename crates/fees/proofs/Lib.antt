-- Laws of fees, for the proofs of the functions.
pub mod Charging
