-- What the program's one function that holds a view promises.
pub mod Viewed
