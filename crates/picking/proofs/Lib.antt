-- Laws that only the proofs of this crate cite.
pub mod ArithmeticLaws
pub mod BitwiseLaws
pub mod ChoiceLaws
pub mod ComparisonLaws
pub mod DivisionLaws
pub mod IfLaws
pub mod JoiningLaws
pub mod KindLaws
pub mod ShiftLaws
pub mod SignedLaws
pub mod SpotLaws
