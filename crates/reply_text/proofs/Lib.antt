pub mod BeginLemmas
pub mod PairLemmas
