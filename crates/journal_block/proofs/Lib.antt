-- The laws of the test of a block.
pub mod Good
