-- The definitions of the ready flags and of the result of a turn.
pub mod Ready
pub mod Turned
