-- The definitions to be believed, in this order; then by folder what is inner, what is promised, and laws.
pub mod Bits
pub mod Agree
pub mod Pick
pub mod inner
pub mod promises
pub mod laws
