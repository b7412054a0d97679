pub mod Widened
pub mod Bounds
pub mod Added
pub mod Asked
pub mod Named
pub mod Parts
pub mod World
pub mod Answered
