-- Laws, for proofs.
pub mod Reading
