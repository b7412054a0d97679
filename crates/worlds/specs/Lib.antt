pub mod Inside
pub mod Apart
pub mod Blurred
pub mod Moved
pub mod Between
pub mod Example
