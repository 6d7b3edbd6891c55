pub mod Entries
pub mod Kept
pub mod Held
pub mod Summing
pub mod Standing
pub mod Ordered
pub mod Reading
