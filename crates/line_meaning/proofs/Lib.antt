pub mod CallerLemmas
pub mod ImportLemmas
pub mod IndexLemmas
pub mod JournalLemmas
pub mod LoadingLemmas
pub mod LongLemmas
pub mod ReachedLemmas
pub mod RefusalLemmas
pub mod RefusingLemmas
pub mod RoleLemmas
pub mod StepLemmas
mod WorldLemmas
