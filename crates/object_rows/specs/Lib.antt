pub mod Columns
pub mod Commands
pub mod Example
pub mod Exported
pub mod Fields
pub mod Reader
pub mod Rows
pub mod Writer
