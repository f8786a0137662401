-- The definitions of the result of a receive, from its decision.
pub mod Replied
