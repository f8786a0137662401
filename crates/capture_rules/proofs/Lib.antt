-- The laws of a step and of reading a capture.
pub mod Steps
pub mod Places
pub mod Laws
pub mod Answers
