pub mod Lines
pub mod Machine
pub mod Run
pub mod Spending
pub mod Stop
pub mod Ending
pub mod Kept
pub mod Gathered
