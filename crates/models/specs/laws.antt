-- Laws of the definitions, for proofs. Nothing here has to be read to know what is promised.
pub mod First
pub mod Positions
pub mod Variables
pub mod Reading
pub mod Values
