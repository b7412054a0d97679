pub mod AskLemmas
pub mod AttemptLemmas
pub mod BlurredLemmas
pub mod CallerLemmas
pub mod FileLemmas
pub mod ListLemmas
pub mod NearLemmas
pub mod ReadyLemmas
pub mod RowLemmas
mod WrittenLemmas
