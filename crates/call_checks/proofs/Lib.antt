-- The laws of the checks and results that calls share.
pub mod Checks
pub mod Calls
pub mod Steps
