-- What the proofs of the queue share.
pub mod Parts
