-- The definitions of what the calls share.
pub mod Stepped
pub mod Gate
pub mod Deciding
