pub mod Keys
pub mod Lines
pub mod Pieces
