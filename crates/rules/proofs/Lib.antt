-- Laws that follow from the rules, and the ruleset that closes a return whose promise goes by tests.
pub mod Tests
pub mod Grid
pub mod Lists
pub mod Painting
pub mod Downwards
pub mod Accepted
pub mod Sums
pub mod Scan
pub mod Ends
pub mod Quick
pub mod Stored
pub mod Cases
