-- The definitions to be believed, in this order; then by folder what is inner, what is promised, and laws.
pub mod Lists
pub mod Readers
pub mod Height
pub mod inner
pub mod promises
pub mod laws
