pub mod CallerLemmas
pub mod PartLemmas
pub mod CountLemmas
pub mod LineLemmas
