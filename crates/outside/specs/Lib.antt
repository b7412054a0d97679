pub mod Faults
pub mod Source
pub mod Sink
pub mod Shelf
pub mod Plan
pub mod Views
pub mod FileName
