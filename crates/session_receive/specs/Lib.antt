-- The definitions of the result of a received message.
pub mod Receipt
