-- The claims that every row of each table holds.
pub mod Rows
pub mod Senders
pub mod Places
pub mod Sizes
pub mod IllFormed
