pub mod Bends
pub mod Parabola
pub mod Stretch
