-- The definitions of the words of answers and states.
pub mod Answers
pub mod States
pub mod Parts
