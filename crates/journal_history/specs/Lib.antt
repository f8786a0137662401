-- What the journal is due after each call of the engine, programs that store it, and what is claimed of them.
pub mod Due
pub mod Keep
pub mod Use
pub mod Sessions
pub mod Claims
