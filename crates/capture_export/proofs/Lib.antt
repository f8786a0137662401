-- The laws of the words.
pub mod Numbers
pub mod Laws
pub mod Rows
