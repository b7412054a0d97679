pub mod SenderLemmas
pub mod HeardLemmas
