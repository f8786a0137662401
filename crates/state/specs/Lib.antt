-- The state of one end of a connection before anything has happened, and the state with some of its parts set.
pub mod New
pub mod With
