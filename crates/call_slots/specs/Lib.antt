-- The definitions of the queue after a put and a turn, for every queue, number and count.
pub mod Slots
