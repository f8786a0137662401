-- The machine of the calls on words, and the claim that it is the machine of the rules.
pub mod Machine
pub mod Claims
