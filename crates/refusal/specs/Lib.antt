-- The numbers of refusals and violations, what a fault says, and what a result stands for that gives no answer.
pub mod Number
pub mod Failure
