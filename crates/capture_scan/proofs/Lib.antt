-- The laws of the scan.
pub mod Laws
mod Tallies
pub mod Rows
