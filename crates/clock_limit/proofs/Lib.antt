-- The laws of the limit for a ping.
pub mod Answers
pub mod Samples
pub mod Limits
