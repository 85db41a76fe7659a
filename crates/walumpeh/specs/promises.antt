-- What is promised, as theorems over all that the contracts allow.
pub mod Batches
pub mod Conversions
pub mod Determined
pub mod Gathers
pub mod Had
pub mod Judgements
pub mod Mends
pub mod Needs
pub mod Runs
