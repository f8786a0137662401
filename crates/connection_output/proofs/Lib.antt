-- What the proofs of writing share, and the law that callers cite.
pub mod Rooms
