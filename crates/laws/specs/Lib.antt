-- The definitions that several crates share.
pub mod Pick
pub mod Result
pub mod Bytes
pub mod Room
pub mod Circle
pub mod Runs
pub mod Codes
