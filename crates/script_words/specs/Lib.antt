-- The definitions of the words, bytes and numbers in a text.
pub mod Numbers
pub mod Words
pub mod Hex
