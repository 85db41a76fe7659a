-- Laws that the proofs cite.
pub mod Line
pub mod Mark
pub mod Word
pub mod Keys
pub mod Format
pub mod Faults
pub mod Text
