pub mod Lines
pub mod Heard
pub mod Hub
pub mod View
pub mod HeardLaw
pub mod HeardExample
pub mod HubExample
