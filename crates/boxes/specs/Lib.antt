-- By folder: what is inner, what is promised, and laws. There is nothing here to be believed: no entry point speaks of sets as boxes.
pub mod inner
pub mod promises
pub mod laws
