-- The laws of the wire format.
pub mod FirstBytes
pub mod Tables
pub mod Reading
pub mod Writing
pub mod Inverse
pub mod Laws
pub mod ConnectionLaws
pub mod Increments
pub mod Writers
pub mod Bounds
pub mod Places
