-- Laws of lines, queues and totals, for the proofs of the functions, and what a caller needs of the fills.
pub mod Parting
pub mod Queueing
pub mod Ranking
pub mod Keyed
pub mod Stretch
pub mod Reaching
pub mod Walk
pub mod Handing
pub mod Fills
