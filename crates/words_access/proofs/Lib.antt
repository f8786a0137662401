-- The laws of what is read and set in the words of a connection that is well formed.
pub mod Access
pub mod Ended
pub mod Heads
pub mod Columns
