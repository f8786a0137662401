-- Runs of a program that stores what is due.
pub mod Reopened
