pub mod CoverLemmas
pub mod SlotLemmas
pub mod NearLemmas
pub mod CallerLemmas
