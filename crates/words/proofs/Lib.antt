-- Laws that only the proofs of this crate cite.
pub mod First
