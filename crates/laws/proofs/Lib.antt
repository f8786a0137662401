-- The laws that several crates share.
pub mod Pick
pub mod Tests
pub mod Below
pub mod Words
pub mod Lists
pub mod Rooms
pub mod Results
pub mod Circle
pub mod Runs
