-- The laws of a search.
pub mod Found
