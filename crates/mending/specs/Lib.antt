-- The definitions to be believed, in this order; then by folder what is inner, what is promised, and laws.
pub mod Order
pub mod Mended
pub mod Refusals
pub mod Solutions
pub mod inner
pub mod promises
pub mod laws
