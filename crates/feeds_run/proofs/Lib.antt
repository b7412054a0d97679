pub mod EndLemmas
pub mod FollowLemmas
pub mod ShareLemmas
