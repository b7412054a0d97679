pub mod LineLemmas
pub mod Refused
pub mod StandingLemmas
pub mod Stopping
pub mod TableLemmas
