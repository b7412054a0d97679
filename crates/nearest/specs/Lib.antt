pub mod Depth
pub mod Order
pub mod Courses
pub mod Sights
pub mod Found
pub mod Rows
