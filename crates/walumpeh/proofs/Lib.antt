-- What the tests of the C interface decide.
pub mod Tests
pub mod Offers
pub mod Answers
