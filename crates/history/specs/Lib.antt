pub mod Write
pub mod Catalog
pub mod State
pub mod History
pub mod World
pub mod Example
