-- What is at a place of a capture, in words.
pub mod Words
pub mod Answers
