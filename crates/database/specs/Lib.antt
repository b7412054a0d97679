pub mod Keeping
pub mod Taking
pub mod Written
pub mod Attempt
pub mod Telling
pub mod Ready
pub mod Near
pub mod Rows
