pub mod Moving
pub mod Relative
pub mod Zones
