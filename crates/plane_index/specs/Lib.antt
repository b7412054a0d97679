pub mod Told
pub mod Held
pub mod Lines
pub mod States
pub mod Columns
pub mod Index
pub mod Ticks
pub mod Rows
