pub mod Status
pub mod Whole
pub mod Saying
pub mod Ends
