-- The laws of a line of text, of a number in decimal, and of bytes as text.
pub mod Decimals
pub mod Lines
pub mod Digits
