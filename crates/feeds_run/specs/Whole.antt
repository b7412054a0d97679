-- What a run is to write by its words, and the status of one that writes all of it.
use Rattle.std.specs.Prelude.{ℕ, is_some, List, [], if◌then◌else◌}
use Rattle.line_loop.specs.Run.{answered_lines, is_cut_off, output}
use Rattle.domino_run.specs.Whole.{bad_words}
use Rattle.feeds_meaning.specs.Hub.{empty_hub, machine as users}
use Rattle.replica.specs.Feed.{Hearing, hearing_after, said, silent}
use Rattle.feeds_run.specs.Following.{following_machine as replica}
use Rattle.feeds_run.specs.Words.{FeedWords, Bad, Shared, Followed}
use Rattle.feeds_run.specs.declared.status.FeedStatus.{FeedStatus}
use Rattle.feeds_run.specs.declared.status.FeedStatus.TheVariants.{Done, BadWords, BadFeed, InputLimit}

pub record WholeFeed : Type 0 where
  pub output : List ℕ
  pub status : FeedStatus

-- the lines that are answered where users share a world: all, or those that end within the limit where there are more bytes
abbrev pub lines_shared : ℕ → List ℕ → List (List ℕ)
lines_shared limit bytes = answered_lines users limit empty_hub bytes

-- the lines for all users, line after line
abbrev pub whole_shared : ℕ → List ℕ → WholeFeed
whole_shared limit bytes = record {
  output = output users limit empty_hub bytes;
  status = if is_cut_off users limit empty_hub bytes then InputLimit else Done;
}

-- what was heard in the end of the query of this name
abbrev pub heard_of : List ℕ → ℕ → List ℕ → Hearing
heard_of name limit bytes = hearing_after (silent name) (answered_lines replica limit (silent name) bytes)

-- The rows, or which line hasn't its form. Of more bytes than the limit nothing is said, unless such a line ends within it.
abbrev pub whole_followed : List ℕ → ℕ → List ℕ → WholeFeed
whole_followed name limit bytes =
    if is_cut_off replica limit (silent name) bytes then record { output = []; status = InputLimit }
    else record {
      output = said (heard_of name limit bytes);
      status = if is_some (heard_of name limit bytes).bad then BadFeed else Done;
    }

abbrev pub whole_feed : FeedWords → ℕ → List ℕ → WholeFeed
whole_feed Bad limit bytes = record { output = bad_words; status = BadWords }
whole_feed Shared limit bytes = whole_shared limit bytes
whole_feed (Followed name) limit bytes = whole_followed name limit bytes
