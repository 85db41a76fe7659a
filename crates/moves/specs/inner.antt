-- What functions that are no entry point ask and answer of each other. Nothing that an entry point promises rests on it.
pub mod Moves
