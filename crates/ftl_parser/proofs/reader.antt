pub mod DigitLemmas
pub mod Judged
pub mod MeasureLemmas
pub mod RunLemmas
pub mod StackLemmas
pub mod TableLemmas
pub mod TokenLemmas
