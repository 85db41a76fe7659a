-- Laws for the proofs of this crate's functions.
pub mod Refusing
pub mod Keeping
pub mod Whole
