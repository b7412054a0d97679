-- How formulas are evaluated. No public clause names these.
pub mod Away
pub mod ByBinding
pub mod Column
pub mod Filled
pub mod Nodes
pub mod Seen
