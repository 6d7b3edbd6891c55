-- Laws of the steps to the auction price.
pub mod Meeting
pub mod Prices
