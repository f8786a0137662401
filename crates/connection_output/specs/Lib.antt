-- The definitions of what one end writes.
pub mod Outgoing
