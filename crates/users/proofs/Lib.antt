pub mod LineLemmas
pub mod CallerLemmas
pub mod GroupLemmas
pub mod PushLemmas
pub mod FirstLemmas
pub mod ReservedLemmas
