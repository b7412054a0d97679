mod BendLemmas
pub mod CallerLemmas
