-- The laws of the ping clock.
pub mod Answers
pub mod State
pub mod Refusals
