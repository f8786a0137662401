-- The definitions of the ping clock.
pub mod Clock
