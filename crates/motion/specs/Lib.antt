pub mod Function
pub mod Padding
pub mod Dynamic
pub mod Cells
pub mod Timeline
pub mod Straight
pub mod Pieces
pub mod Range
