-- The definitions of the words of a message and of a fault.
pub mod Message
