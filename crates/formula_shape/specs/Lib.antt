pub mod Example
pub mod Shape
pub mod ShapeCode
pub mod Sizes
