-- The definitions of what a session's steps answer.
pub mod Step
