pub mod Apart
pub mod Pairs
pub mod Rounding
pub mod Signs
pub mod Slope
