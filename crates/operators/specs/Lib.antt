-- The definitions to be believed, in this order; then by folder what is inner, what is promised, and laws.
pub mod Table
pub mod Meaning
pub mod inner
pub mod promises
pub mod laws
