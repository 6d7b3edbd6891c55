-- What the library hands to programs in C and in Rust.
pub mod Replies
