-- What the parts of a run promise.
use Rattle.std.specs.Prelude.{◌≡◌, ◌⊎◌, ℕ, is_some, List, Option, if◌then◌else◌}
use Rattle.run_ends.specs.Saying.{Speaks}
use Rattle.run_ends.specs.declared.status.Status.{Status}
use Rattle.run_ends.specs.declared.status.Status.TheVariants as statuses
use Rattle.feeds_run.specs.Status.{said_as}
use Rattle.replica.specs.Feed.{Hearing, said}
use Rattle.feeds_run.specs.declared.status.FeedStatus.{FeedStatus}
use Rattle.feeds_run.specs.declared.status.FeedStatus.TheVariants.{Done, BadFeed, NoMemory}

-- something is said with a status, to a sink with these counts of faults and these bytes before it and after it
pub record TellsAtTheEnd (said : List ℕ) (end status : FeedStatus) (faults faults' : ℕ) (old new : Option (List ℕ)) : Type 0 where
  pub written : Status
  pub speaks : Speaks said statuses.Done written faults faults' old new
  pub status_is : status ≡ said_as end written

-- the status of a run in which all was heard
abbrev pub heard_end : Hearing → FeedStatus
heard_end h = if is_some h.bad then BadFeed else Done

-- what was heard is said, or there was no memory for the text of it
abbrev pub TellsHeard : Hearing → FeedStatus → ℕ → ℕ → Option (List ℕ) → Option (List ℕ) → Type 0
TellsHeard h status faults faults' old new =
    TellsAtTheEnd (said h) (heard_end h) status faults faults' old new ⊎ ((status ≡ NoMemory) × (faults' ≡ faults) × (new ≡ old))
