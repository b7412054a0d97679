pub mod ShapeLemmas
pub mod TickByTick
pub mod UntilLemmas
pub mod WindowLemmas
