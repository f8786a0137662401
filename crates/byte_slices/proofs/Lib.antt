-- The law of a search, step by step.
pub mod Search
