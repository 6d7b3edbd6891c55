-- Laws of this crate.
pub mod Laws
