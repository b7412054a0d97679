pub mod Operators
pub mod Runs
pub mod SetOperation
pub mod TickList
pub mod Ticks
pub mod Windows
