-- The definitions of the wire format, in the order of the published description.
pub mod Pattern
pub mod FirstByte
pub mod Layout
pub mod Message
pub mod Connection
pub mod Wrong
pub mod Back
