-- Laws that the proofs cite.
pub mod Constant
pub mod Spell
pub mod Rule
pub mod Byte
pub mod Written
pub mod Roots
