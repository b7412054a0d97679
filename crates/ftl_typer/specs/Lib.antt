pub mod Context
pub mod Fault
pub mod Faults
pub mod First
pub mod Resolved
pub mod Scope
pub mod Values
pub mod Example
