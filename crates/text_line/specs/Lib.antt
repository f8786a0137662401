-- The definitions of a line of text, and of bytes as text.
pub mod Line
pub mod Hex
