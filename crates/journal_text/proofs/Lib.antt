-- The law of the lines of entries.
pub mod Lines
