pub mod Sender
pub mod Tagged
pub mod Example
