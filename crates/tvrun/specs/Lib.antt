-- What the program's reader tells.
pub mod laws
