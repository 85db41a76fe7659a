-- Laws of the definitions, for proofs. Nothing here has to be read to know what is promised.
pub mod Apart
pub mod Found
pub mod Lead
pub mod More
pub mod Room
pub mod Runs
pub mod Starts
