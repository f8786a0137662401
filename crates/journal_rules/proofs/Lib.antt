-- The laws of the journal and the proofs of its claims.
pub mod Blocks
pub mod Regions
pub mod Answers
pub mod Histories
pub mod Listings
pub mod Rows
pub mod Claimed
pub mod Uses
