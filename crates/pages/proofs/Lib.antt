-- Laws of the pages, for the proofs of the functions.
pub mod Joining
pub mod Telling
pub mod Reported
pub mod Archiving
pub mod Printed
