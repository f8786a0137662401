-- What all messages of a capture come to.
pub mod Scan
pub mod Tallies
