pub mod Words
pub mod Status
pub mod Parts
pub mod Following
pub mod Whole
pub mod Ends
pub mod Theorem
pub mod Example
