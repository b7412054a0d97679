pub mod StripLemmas
pub mod BoxLemmas
pub mod RowLemmas
pub mod QueryLemmas
