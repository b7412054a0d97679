pub mod GapLemmas
pub mod MergeLemmas
pub mod OverlapLemmas
pub mod Search
pub mod SpanLemmas
mod SpliceLemmas
