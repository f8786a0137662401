-- Logs of calls, what they tell, and what is claimed of every one of them.
pub mod Log
pub mod Written
pub mod Meaning
pub mod Account
pub mod Held
pub mod Meant
pub mod Sums
pub mod Fates
pub mod Answers
pub mod Lapsed
pub mod Faults
pub mod Claims
