-- Laws of the definitions, for proofs. Nothing here has to be read to know what is promised.
pub mod Good
pub mod Nodes
pub mod Pairs
pub mod Positions
pub mod Readings
pub mod Spot
pub mod Taking
pub mod Upward
