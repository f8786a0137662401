-- The calls on words are those of the rules, and the claims.
pub mod Alike
pub mod Claimed
