-- The definitions of what a receive decides, and of which bytes it takes.
pub mod Extent
pub mod Stepped
pub mod Verdict
