-- What code reads off a line and a text.
pub mod Places
pub mod Keys
pub mod Told
