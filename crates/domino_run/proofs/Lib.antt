pub mod AskLemmas
pub mod AnswerLemmas
pub mod LongLines
pub mod NumberLemmas
pub mod SummaryLemmas
pub mod RunLemmas
