-- What is promised.
pub mod Determined
