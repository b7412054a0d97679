pub mod Bounds
pub mod Faults
pub mod Given
pub mod Inside
pub mod Margin
pub mod Named
