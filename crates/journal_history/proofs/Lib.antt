-- The proofs of the claims.
pub mod Growth
pub mod Keeps
pub mod Telling
pub mod Openings
pub mod Programs
pub mod Told
pub mod Calls
pub mod Ends
pub mod Stops
pub mod Kept
pub mod Uses
