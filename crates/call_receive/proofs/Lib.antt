-- What the proofs of receive share.
pub mod Rooms
pub mod Rules
