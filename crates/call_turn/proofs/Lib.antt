-- What the proofs of a turn share.
pub mod Ready
pub mod Served
pub mod Whole
pub mod Shrinking
