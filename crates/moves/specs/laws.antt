-- Laws of the definitions, for proofs. Nothing here has to be read to know what is promised.
pub mod Candidates
pub mod Moves
pub mod Setting
