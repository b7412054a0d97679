pub mod Names
pub mod canonical
pub mod grammar
pub mod reader
