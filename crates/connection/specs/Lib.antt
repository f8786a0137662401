-- The definition of what a cause of a connection's end means.
pub mod Cause
