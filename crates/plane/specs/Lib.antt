pub mod Recorded
pub mod Boxes
pub mod Rows
pub mod Example
