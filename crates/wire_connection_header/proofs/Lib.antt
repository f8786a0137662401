-- What the reader's answers say, the place of a header's first wrong byte, and an input that has its eight bytes.
pub mod Answers
pub mod Places
pub mod Long
