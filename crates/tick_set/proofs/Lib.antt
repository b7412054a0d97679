pub mod Between
pub mod CallerLemmas
pub mod JoinLemmas
pub mod PartLemmas
pub mod RunLemmas
pub mod TickListLemmas
pub mod UntilLemmas
