-- Laws for the proofs of this crate's functions.
pub mod RootPlaces
pub mod Steps
pub mod Places
pub mod Turns
