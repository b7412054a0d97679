pub mod FarLemmas
pub mod PairLemmas
