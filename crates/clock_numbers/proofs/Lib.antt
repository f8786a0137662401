-- The laws of the numbers of binary64.
pub mod Range
pub mod Passing
pub mod Between
