pub mod KeptLemmas
pub mod OrderLemmas
