-- What functions that are no entry point ask and answer of each other. Nothing that an entry point promises rests on it.
pub mod Order
pub mod Chains
pub mod Laid
pub mod Mending
