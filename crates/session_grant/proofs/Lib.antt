-- What the proof of a grant cites.
pub mod Growing
