pub mod Patches
pub mod Boxes
pub mod Places
