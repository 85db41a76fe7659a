-- The definitions to be believed, in this order; then by folder what is promised, and laws.
pub mod Runs
pub mod Numbers
pub mod promises
pub mod laws
