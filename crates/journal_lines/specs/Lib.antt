-- The definitions of what a line of a journal's script asks.
pub mod Keywords
pub mod Lines
pub mod Blocks
