-- What several proofs of a session's steps share.
pub mod Rations
