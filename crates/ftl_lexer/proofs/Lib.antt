pub mod Cuts
pub mod Fronts
pub mod Longest
pub mod Rooms
pub mod Shapes
pub mod Spans
pub mod Steps
