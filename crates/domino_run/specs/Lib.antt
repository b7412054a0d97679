pub mod Machine
pub mod Words
pub mod Summary
pub mod Whole
pub mod Ends
pub mod Looks
pub mod Theorem
pub mod Parts
