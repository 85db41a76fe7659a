-- The definitions to be believed, in this order; then by folder what is inner, what is promised, and laws.
pub mod Layout
pub mod Faults
pub mod Refusals
pub mod inner
pub mod promises
pub mod laws
