-- The place after what was read.
pub mod Sizes
