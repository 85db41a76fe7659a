-- What is promised, as theorems over all that the contracts allow.
pub mod Determined
pub mod Order
pub mod Exactly
pub mod Numbers
pub mod Values
pub mod Examples
