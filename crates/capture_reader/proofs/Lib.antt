-- The law of the reader of captures, and its places.
pub mod Laws
pub mod Places
