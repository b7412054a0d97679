pub mod CallerLemmas
pub mod ReachLemmas
pub mod ResolvedLemmas
