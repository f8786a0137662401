-- The definitions of a session and of a connection in words, and of a call on words.
pub mod Session
pub mod State
pub mod Calls
