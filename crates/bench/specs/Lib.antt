-- Tables of computed rows: what a row says, cases 1 to 5 and 7 of docs/PROTOCOL.md, who may send what, the places of violations, the sizes
-- that calls need, and states that are not well formed.
pub mod Row
pub mod Table
pub mod Senders
pub mod Places
pub mod Sizes
pub mod IllFormed
