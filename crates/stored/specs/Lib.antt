-- What a view over a stored result holds and hands out, and what the functions inside this crate hand to each other.
pub mod Views
pub mod Steps
