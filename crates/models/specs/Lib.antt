-- The definitions to be believed, in this order; then by folder what is inner, what is promised, and laws.
pub mod Judgement
pub mod Reasons
pub mod Answers
pub mod inner
pub mod promises
pub mod laws
