pub mod Counts
pub mod Fits
pub mod Kept
pub mod Lacks
pub mod Laws
pub mod Reading
pub mod Text
