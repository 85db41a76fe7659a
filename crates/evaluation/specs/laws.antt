-- Laws of the definitions, for proofs. Nothing here has to be read to know what is promised.
pub mod Above
pub mod Chains
pub mod Decide
pub mod Height
pub mod Linking
pub mod Links
pub mod Lists
pub mod Passing
pub mod Values
