-- What is promised, as theorems over all that the contracts allow.
pub mod Determined
