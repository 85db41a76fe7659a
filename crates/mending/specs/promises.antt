-- What is promised, as theorems over all that the contracts allow.
pub mod Determined
pub mod Placing
pub mod Mended
pub mod Circle
pub mod Late
pub mod Examples
