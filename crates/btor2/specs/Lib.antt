-- The definitions to be believed, in this order; then by folder what is inner, what is promised, and laws.
pub mod Conversion
pub mod Meaning
pub mod Inputs
pub mod Answer
pub mod inner
pub mod promises
pub mod laws
