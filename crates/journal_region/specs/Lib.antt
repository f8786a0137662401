-- What a search of a region finds.
pub mod Search
