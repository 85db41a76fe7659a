-- Laws of the definitions, for proofs. Nothing here has to be read to know what is promised.
pub mod Arms
pub mod Cuts
pub mod Division
pub mod Meaning
pub mod Signed
pub mod Table
