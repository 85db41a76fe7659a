-- The definitions to be believed, in this order; then by folder what is promised, and laws.
pub mod Codes
pub mod Offered
pub mod Calls
pub mod Needs
pub mod Judgements
pub mod Mends
pub mod Conversions
pub mod Runs
pub mod Batches
pub mod Gathers
pub mod promises
pub mod laws
