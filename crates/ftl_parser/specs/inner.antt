pub mod Fits
pub mod Machine
pub mod Measure
pub mod Parses
pub mod Scan
pub mod Views
