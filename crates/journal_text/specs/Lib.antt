-- The words of what the calls of the journal answer.
pub mod Texts
