pub mod Example
pub mod Followed
pub mod Targets
pub mod Written
