-- The laws of a session's words, of a connection's words, and of calls on words.
pub mod Sessions
pub mod Ready
pub mod States
pub mod Updates
pub mod Calls
pub mod OneToOne
