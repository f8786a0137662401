-- What the proofs of judging share.
pub mod Judgments
