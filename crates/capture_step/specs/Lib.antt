-- The definition of a message at a place, with its size.
pub mod Answer
