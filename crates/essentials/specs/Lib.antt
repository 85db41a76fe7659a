-- By folder: what is inner, what is promised, and laws. What is to be believed of essential positions stands in `picking`.
pub mod inner
pub mod promises
pub mod laws
