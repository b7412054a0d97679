pub mod Bounds
pub mod Stored
pub mod TimelineLemmas
pub mod StraightLemmas
pub mod LegLemmas
pub mod CellLemmas
pub mod PieceLemmas
mod RangeLemmas
pub mod CallerLemmas
