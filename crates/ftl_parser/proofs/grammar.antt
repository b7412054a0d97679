pub mod Bodies
pub mod Drives
pub mod Found
pub mod Marks
pub mod OneReading
pub mod OrderLemmas
pub mod Stuck
