-- The definitions of the reader's answers.
pub mod Answer
pub mod Order
