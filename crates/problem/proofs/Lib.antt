-- Laws that only this crate's proofs cite.
pub mod Passed
pub mod Shifted
pub mod Stops
pub mod View
