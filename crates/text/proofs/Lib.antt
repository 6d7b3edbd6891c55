-- Laws of the text, for the proofs of the functions.
pub mod Writing
pub mod Figures
pub mod Printing
pub mod Chunks
pub mod Reading
pub mod ReadsBack
pub mod Program
