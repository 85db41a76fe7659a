-- What is proved of the definitions and of the entry point's contract.
pub mod Determined
pub mod Order
pub mod Numbers
pub mod Acceptable
pub mod Roots
pub mod Variables
pub mod Counts
pub mod Exactly
pub mod Examples
