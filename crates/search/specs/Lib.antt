-- The definitions to be believed, in this order; then by folder what is inner, what is promised, and laws.
pub mod Run
pub mod Call
pub mod Answers
pub mod Reach
pub mod Passing
pub mod inner
pub mod promises
pub mod laws
