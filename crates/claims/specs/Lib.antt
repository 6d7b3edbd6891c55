-- What is claimed beyond what the rules say: F1–F4 and the largest fills, the auction price against other prices, demand 3, what the
-- calls that write promise, what a stored result says that opens, and what may be expected of the waiting clock and of a widening.
-- Each claim is a theorem in proofs/.
pub mod Fills
pub mod Price
pub mod Demand3
pub mod Calls
pub mod Stored
pub mod Waiting
pub mod Widening
-- Words in which the laws and the engine's promises speak; they claim nothing.
pub mod Orders
pub mod Places
pub mod Crossing
pub mod Fits
pub mod Clock
