-- What the functions of this crate hand to each other.
pub mod Steps
