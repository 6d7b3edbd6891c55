pub mod Filed
pub mod Book
