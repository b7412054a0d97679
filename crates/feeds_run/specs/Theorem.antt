-- The theorem of the program: how each run ends, what it wrote, what it took, and what each user was told.
use Rattle.std.specs.Prelude.{◌≡◌, ◌⊎◌, ℕ, true, List, ◌++◌, Some}
use Rattle.run_ends.specs.Ends.{NoneRose, Seen, says_all}
use Rattle.feeds_meaning.specs.Heard.{empty_seat, heard}
use Rattle.feeds_meaning.specs.HeardLaw.{is_of_letters}
use Rattle.feeds_meaning.specs.Hub.{empty_hub}
use Rattle.feeds_meaning.specs.View.{user_view}
use Rattle.users.specs.Tagged.{lines_for}
use Rattle.feeds_run.specs.Ends.{EndsFeedAs, IsFeedPart, IsWholeFeed, KeepsFeedLimit, feed_may_end}
use Rattle.run_ends.specs.Status.{HasStatusCause}
use Rattle.feeds_run.specs.Status.{run_status}
use Rattle.feeds_run.specs.Whole.{lines_shared}
use Rattle.feeds_run.specs.Words.{FeedWords, Shared}
use Rattle.feeds_run.specs.declared.status.FeedStatus.{FeedStatus}
use Rattle.feeds_run.specs.declared.status.FeedStatus.TheVariants.{NoMemory}

-- what is said for each user is what this user hears of the view: of the own lines, and the accepted data commands of others
abbrev pub TellsViews : List (List ℕ) → List ℕ → Type 0
TellsViews lines said = (user : List ℕ) → is_of_letters user ≡ true → lines_for user said ≡ heard empty_seat (user_view empty_hub user lines)

-- all that a run promises, from what is seen of the outside before it to what is seen after it
pub record FeedsAs (limit : ℕ) (words : FeedWords) (before after : Seen) (status : FeedStatus) : Type 0 where
  pub fits : feed_may_end words status ≡ true
  pub cause : HasStatusCause (run_status status) before.faults after.faults
  pub taken : (bytes : List ℕ) → before.left ≡ Some bytes → KeepsFeedLimit words limit bytes status after.left
  pub ends : (bytes written : List ℕ) → before.left ≡ Some bytes → before.written ≡ Some written → EndsFeedAs words limit bytes written status after
  pub users : (bytes written said : List ℕ) → before.left ≡ Some bytes → before.written ≡ Some written →
      words ≡ Shared → says_all (run_status status) ≡ true → after.written ≡ Some (written ++ said) → TellsViews (lines_shared limit bytes) said

-- where no count of faults rose, it is the whole run, or there was no memory after a part of it
abbrev pub IsComplete : Type 0
IsComplete = (limit : ℕ) (words : FeedWords) (before after : Seen) (status : FeedStatus) (bytes written : List ℕ) →
    FeedsAs limit words before after status → before.left ≡ Some bytes → before.written ≡ Some written → NoneRose before.faults after.faults →
    IsWholeFeed words limit bytes written status after ⊎ ((status ≡ NoMemory) × IsFeedPart words limit bytes written after)
