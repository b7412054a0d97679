pub mod AddedLemmas
pub mod AnswerLemmas
pub mod JudgeLemmas
pub mod KeyLemmas
pub mod LineLemmas
pub mod NameLemmas
pub mod SizeLemmas
pub mod BesideLemmas
