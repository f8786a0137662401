-- The definitions of what is at the places of a capture.
pub mod Place
pub mod Reading
