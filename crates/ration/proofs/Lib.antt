-- The laws of the ration.
pub mod Laws
