-- What the answer of a keep means.
pub mod Answers
