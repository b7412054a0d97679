pub mod Nearest
pub mod Example
pub mod Kept
