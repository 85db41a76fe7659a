-- The keywords as code groups them, and what the functions inside answer.
pub mod Spelled
pub mod Constants
pub mod Written
