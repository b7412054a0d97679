mod ApartLemmas
mod MovedLemmas
mod AtomLemmas
mod BetweenLemmas
mod ExactLemmas
pub mod CallerLemmas
