pub mod Remaining
pub mod Booking
pub mod Summing
pub mod Halving
pub mod Stepping
pub mod Lining
