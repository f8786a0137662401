-- CRC-32C: the definition, and the same bit by bit in one number.
pub mod Crc
pub mod Steps
