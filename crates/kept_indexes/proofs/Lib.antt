pub mod StandLemmas
mod FindLemmas
mod RangeLemmas
mod MakeLemmas
mod AnswerLemmas
