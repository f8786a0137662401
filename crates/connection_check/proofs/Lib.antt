-- What the test of every session is, and what it tells about one of them.
pub mod Sessions
mod Tests
