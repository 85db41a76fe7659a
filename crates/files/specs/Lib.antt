-- The definitions to be believed, in this order; then by folder what is inner, what is promised, and laws.
pub mod Laid
pub mod Words
pub mod Text
pub mod Told
pub mod inner
pub mod promises
pub mod laws
