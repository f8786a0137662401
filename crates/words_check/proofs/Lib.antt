-- The laws of words that are those of a connection that is well formed.
pub mod Formed
pub mod Waiting
