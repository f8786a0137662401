-- The definitions of the answers.
pub mod Answer
