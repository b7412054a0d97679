-- How a run may end, by its status.
use Rattle.std.specs.Prelude.{◌≡◌, ℕ, ◌≤◌, Bool, true, false, is_some, List, [], ◌++◌, take, Option, None, Some}
use Rattle.line_loop.specs.Ending as loop
use Rattle.line_loop.specs.Ending.{HasTaken}
use Rattle.line_loop.specs.Lines.{ended_lines}
use Rattle.line_loop.specs.Machine.{replies}
use Rattle.line_loop.specs.Stop.{WritesPart}
use Rattle.run_ends.specs.Ends.{Seen, seen}
use Rattle.feeds_meaning.specs.Hub.{empty_hub, machine as users}
use Rattle.replica.specs.Feed.{hearing_after, silent}
use Rattle.run_ends.specs.Status.{ending_by}
use Rattle.feeds_run.specs.Status.{run_status}
use Rattle.feeds_run.specs.Whole.{whole_feed}
use Rattle.feeds_run.specs.Words.{FeedWords, Bad, Shared, Followed}
use Rattle.feeds_run.specs.declared.status.FeedStatus.{FeedStatus}
use Rattle.feeds_run.specs.declared.status.FeedStatus.TheVariants.{BadWords, BadFeed, ReadFault, WriteFault, NoMemory}

-- what is seen of the source and the sink; there is no shelf of texts
abbrev pub seen_of : ℕ → ℕ → Option (List ℕ) → Option (List ℕ) → Seen
seen_of source sink left written = seen source sink 0 left written None

-- Which statuses may come with which words. What is said may fail or want memory, and reads nothing.
abbrev pub feed_may_end : FeedWords → FeedStatus → Bool
feed_may_end Bad BadWords = true
feed_may_end Bad WriteFault = true
feed_may_end Bad NoMemory = true
feed_may_end Bad _ = false
feed_may_end Shared BadWords = false
feed_may_end Shared BadFeed = false
feed_may_end Shared _ = true
feed_may_end (Followed name) BadWords = false
feed_may_end (Followed name) _ = true

-- With bad words nothing is read. Else no byte past the limit is taken, but for the one that shows that there is another.
abbrev pub KeepsFeedLimit : FeedWords → ℕ → List ℕ → FeedStatus → Option (List ℕ) → Type 0
KeepsFeedLimit Bad limit bytes status left = left ≡ Some bytes
KeepsFeedLimit Shared limit bytes status left = loop.KeepsLimit limit bytes (ending_by (run_status status)) left
KeepsFeedLimit (Followed name) limit bytes status left = loop.KeepsLimit limit bytes (ending_by (run_status status)) left

-- all of the output was written
pub record IsWholeFeed (words : FeedWords) (limit : ℕ) (bytes written : List ℕ) (status : FeedStatus) (hearing_after : Seen) : Type 0 where
  pub status_is : status ≡ (whole_feed words limit bytes).status
  pub output : hearing_after.written ≡ Some (written ++ (whole_feed words limit bytes).output)

-- a part of it, or all of it
abbrev pub IsFeedPart : FeedWords → ℕ → (bytes written : List ℕ) → Seen → Type 0
IsFeedPart words limit bytes written hearing_after = (count : ℕ) × (hearing_after.written ≡ Some (written ++ take count (whole_feed words limit bytes).output))

-- what was written of bytes after which a read failed: the lines for the lines that end in them. A replica has written nothing.
abbrev pub written_of : FeedWords → List ℕ → List ℕ
written_of Bad taken = []
written_of Shared taken = replies users empty_hub (ended_lines taken)
written_of (Followed name) taken = []

-- whether a line that ends in them hasn't the form that a replica asks
abbrev pub is_bad_in : FeedWords → List ℕ → Bool
is_bad_in Bad taken = false
is_bad_in Shared taken = false
is_bad_in (Followed name) taken = is_some (hearing_after (silent name) (ended_lines taken)).bad

pub record IsFeedReadFault (words : FeedWords) (limit : ℕ) (bytes written : List ℕ) (hearing_after : Seen) : Type 0 where
  pub count : ℕ
  pub within : count ≤ limit
  pub taken : HasTaken bytes count hearing_after.left
  pub output : hearing_after.written ≡ Some (written ++ written_of words (take count bytes))
  pub going_on : is_bad_in words (take count bytes) ≡ false

-- one case a status, where the source and the sink tell what they hold
abbrev pub EndsFeedAs : FeedWords → ℕ → (bytes written : List ℕ) → FeedStatus → Seen → Type 0
EndsFeedAs words limit bytes written ReadFault hearing_after = IsFeedReadFault words limit bytes written hearing_after
EndsFeedAs words limit bytes written WriteFault hearing_after = WritesPart (whole_feed words limit bytes).output written hearing_after.written
EndsFeedAs words limit bytes written NoMemory hearing_after = IsFeedPart words limit bytes written hearing_after
EndsFeedAs words limit bytes written status hearing_after = IsWholeFeed words limit bytes written status hearing_after
