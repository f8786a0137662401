-- The journal's definitions: blocks, regions, the calls' answers, the listing, histories, and the claims.
pub mod Block
pub mod Region
pub mod Listing
pub mod Calls
pub mod Power
pub mod Claims
