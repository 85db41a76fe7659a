-- The definitions to be believed, in this order; then by folder what is inner, what is promised, and laws.
pub mod Pieces
pub mod Tokens
pub mod Names
pub mod Entries
pub mod inner
pub mod promises
pub mod laws
