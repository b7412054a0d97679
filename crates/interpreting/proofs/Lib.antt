pub mod FewerLemmas
pub mod NameLemmas
