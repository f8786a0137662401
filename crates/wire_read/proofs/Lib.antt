-- What the reader's answers say, the order of its checks, an input that has its four header bytes, and that no message is longer
-- than its header says.
pub mod Answers
pub mod Order
pub mod Long
pub mod Longest
