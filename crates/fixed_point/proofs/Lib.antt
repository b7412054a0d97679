pub mod CanonicalLemmas
pub mod DecimalLemmas
pub mod DigitLemmas
pub mod WholeLemmas
