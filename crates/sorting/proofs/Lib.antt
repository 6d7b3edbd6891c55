-- Laws of putting a number among others that fall, and of finding a place among them.
pub mod Moving
pub mod Halving
pub mod Copying
