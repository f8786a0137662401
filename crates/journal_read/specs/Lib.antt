-- What the answers of a read and a listing mean, and what a contract sees of their lists.
pub mod BlockList
pub mod Answers
