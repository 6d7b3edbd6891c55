-- Laws of the calls on a sheet, for the proofs of the functions.
pub mod FirstRound
pub mod FirstWritten
pub mod Spaces
pub mod WholeOpening
pub mod WithFees
