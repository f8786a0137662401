-- The definitions of the limit for a ping, and the claims.
pub mod Limit
pub mod Claims
