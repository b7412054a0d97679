pub mod AreaLemmas
pub mod ListLemmas
pub mod FailLemmas
pub mod HoldingLemmas
pub mod BesideLemmas
pub mod ShareLemmas
pub mod ReachLemmas
pub mod WhereaboutsLemmas
