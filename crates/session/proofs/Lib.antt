pub mod FaultLemmas
mod KeepLemmas
pub mod RowLemmas
pub mod KnownLemmas
pub mod QueryLemmas
pub mod ChangeLemmas
pub mod LineLemmas
pub mod SettleLemmas
pub mod FollowLemmas
pub mod AnswerLemmas
pub mod TrialLemmas
pub mod CarriedLemmas
pub mod EnterLemmas
pub mod FileLemmas
pub mod UntoldLemmas
pub mod LoadLemmas
pub mod ReachedLemmas
mod LiftLemmas
mod SharingLemmas
pub mod CallerLemmas
mod IndexedLemmas
