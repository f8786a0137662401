-- The definitions of bytes in a slice.
pub mod Bytes
