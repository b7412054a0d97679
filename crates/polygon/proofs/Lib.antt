pub mod AmongLemmas
pub mod BoundLemmas
pub mod EdgeLemmas
pub mod KeptLemmas
pub mod MarginLemmas
pub mod NamedLemmas
pub mod TickLemmas
