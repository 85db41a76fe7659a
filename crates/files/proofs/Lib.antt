-- Laws that only this crate's proofs cite.
pub mod Turns
pub mod Reading
