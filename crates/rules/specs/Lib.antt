-- The rules, a file for each part of docs/RULES.md and in its order; [n.m] above a definition is its clause there, which
-- also holds for those below it until the next. All that a reader has to believe stands here.
pub mod Grid
pub mod Words
pub mod Lists
pub mod Answers
pub mod Sheet
pub mod Limits
pub mod AuctionPrice
pub mod Fills
pub mod Opening
pub mod Result
pub mod Fees
pub mod Band
pub mod Waiting
pub mod Calls
pub mod Stored
pub mod Listing
pub mod Pages
pub mod Cases
