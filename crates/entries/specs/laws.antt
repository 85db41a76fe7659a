-- Laws of the definitions, for proofs. Nothing here has to be read to know what is promised.
pub mod Pieces
pub mod Tokens
pub mod Names
pub mod Numbers
pub mod Entries
pub mod Short
