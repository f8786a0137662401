-- The room after two copies.
pub mod Copied
