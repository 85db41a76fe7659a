-- What code keeps and reads off the text, and what the functions inside ask and answer.
pub mod Kept
pub mod Read
pub mod Taking
pub mod Folding
pub mod Values
