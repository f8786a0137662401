-- The laws of a store and a repair.
pub mod Calls
