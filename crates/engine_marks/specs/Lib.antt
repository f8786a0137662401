-- The marks of a room.
pub mod Marks
