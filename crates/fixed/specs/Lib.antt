-- The definitions to be believed; then by folder what is inner, what is promised, and laws.
pub mod Fixed
pub mod inner
pub mod promises
pub mod laws
