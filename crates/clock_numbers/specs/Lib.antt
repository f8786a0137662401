-- The definitions of the numbers of binary64.
pub mod Arithmetic
