-- Laws of the definitions, for proofs. Nothing here has to be read to know what is promised.
pub mod Least
pub mod Order
pub mod Ready
pub mod Chains
pub mod Tried
pub mod InOrder
pub mod Joined
pub mod Laid
pub mod Mended
pub mod Solutions
pub mod Faults
pub mod Accepted
