pub mod Comparison
pub mod Language
pub mod Rows
pub mod SignRows
