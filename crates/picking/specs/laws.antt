-- Laws of the definitions, for proofs. Nothing here has to be read to know what is promised.
pub mod Fair
pub mod If
pub mod Positions
pub mod Tests
