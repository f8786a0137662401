-- What the proofs of a turn cite.
pub mod Sending
