-- The definitions of what is read and set in words, whatever they are.
pub mod Access
