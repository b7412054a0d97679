pub mod Standing
pub mod Registers
pub mod Moves
pub mod Beside
pub mod Judged
