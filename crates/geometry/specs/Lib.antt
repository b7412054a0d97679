pub mod Circle
pub mod Distance
pub mod Margin
pub mod Plane
pub mod Polygon
pub mod Region
