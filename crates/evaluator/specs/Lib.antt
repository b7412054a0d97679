pub mod Assigned
pub mod Gathered
pub mod Interpreting
pub mod Keys
pub mod Rows
pub mod Stretched
pub mod inner
