-- Laws of the run of an opening, for the proofs of the functions.
pub mod Accepted
pub mod Made
pub mod Places
pub mod Running
