pub mod CallerLemmas
pub mod JournalLemmas
pub mod Names
pub mod RefusalLemmas
pub mod canonical
pub mod grammar
pub mod reader
