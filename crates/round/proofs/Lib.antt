-- Laws of rounds and of their words, for the proofs of the functions.
pub mod Written
pub mod OneRound
