-- The published values, and the laws by which the table gives what the division gives.
mod Xor
mod Bits
mod Shifts
pub mod Division
pub mod Published
