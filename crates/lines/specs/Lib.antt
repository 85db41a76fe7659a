-- The definitions to be believed, in this order; then by folder what is inner, what is promised, and laws.
pub mod Faults
pub mod Lines
pub mod Words
pub mod Format
pub mod inner
pub mod promises
pub mod laws
