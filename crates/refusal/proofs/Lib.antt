-- What follows from the numbers.
pub mod Distinct
