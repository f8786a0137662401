-- The laws of reading and listing.
pub mod Standing
pub mod Steps
