-- The definition of the result of a put.
pub mod Put
