-- The definitions of the reader of captures.
pub mod Capture
pub mod Reading
