pub mod Distance
pub mod Pairs
pub mod Reach
