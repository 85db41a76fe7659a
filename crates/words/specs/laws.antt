-- Laws of the definitions, for proofs. Nothing here has to be read to know what is promised.
pub mod Agree
pub mod Bits
pub mod Carry
pub mod Cases
pub mod Consist
pub mod Decides
pub mod Less
pub mod Marks
pub mod Meet
pub mod Modular
pub mod Mul
pub mod Narrow
pub mod Pick
pub mod Shift
pub mod Zeros
