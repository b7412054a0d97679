pub mod CutLemmas
pub mod DigitLemmas
pub mod KeptLemmas
pub mod LacksLemmas
pub mod LineLemmas
pub mod ReadLemmas
pub mod SavedLemmas
pub mod TextLemmas
