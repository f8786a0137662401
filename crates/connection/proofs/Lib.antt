-- The laws of a mapped table and of the parts of a connection that several crates cite.
pub mod Tables
pub mod Effects
