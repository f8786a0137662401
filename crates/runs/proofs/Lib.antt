-- Runs from a connection just made, and what their logs tell.
pub mod Played
pub mod Case6
pub mod FirstPart
pub mod ServerRun
pub mod Ledgers
pub mod Breaks
pub mod Lapses
pub mod Waiting
pub mod Told
pub mod Uses
pub mod Applied
pub mod Arriving
pub mod Filling
pub mod Full
