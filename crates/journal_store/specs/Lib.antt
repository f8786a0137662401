-- What the answers of a store and a repair mean.
pub mod Answers
