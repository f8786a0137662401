-- Laws of words, digits and numbers.
pub mod Values
pub mod Texts
pub mod Digits
pub mod Splits
