pub mod Endings
pub mod Starts
