-- Laws of the definitions, for proofs. Nothing here has to be read to know what is promised.
pub mod Built
pub mod Rules
pub mod Single
pub mod Witness
