-- The definitions of the ration.
pub mod Ration
