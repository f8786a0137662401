-- The definitions of what a line of a script asks.
pub mod Names
pub mod Calls
