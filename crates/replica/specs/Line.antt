-- What a line says of the query that is followed.
use Rattle.std.specs.Prelude.{ℕ, ◌||◌, is_none, Bool, Option, Some, None, option_and_then, List, codes, if◌then◌else◌}
use Rattle.std.specs.Option.{option_map_or}
use Rattle.std.specs.Str.{bytes_eq}
use Rattle.exact.specs.Options.{◌>>=◌}
use Rattle.formula.specs.declared.kind.QueryKind.{QueryKind}
use Rattle.formula.specs.declared.kind.QueryKind.TheVariants.{Watch, Keep}
use Rattle.tick_set.specs.declared.operation.SetOperation.{SetOperation}
use Rattle.tick_set.specs.declared.operation.SetOperation.TheVariants.{Union, Without}
use Rattle.replica.specs.Rows.{TargetRow}
use Rattle.replica.specs.Text.{after_text, before_text, cut_at_mark, is_target, spans_from, tick_of, words}

pub data ToldLine : Type 0 where
  -- the query begins, at a clock
  Starts : QueryKind → ℕ → ToldLine
  -- a row of an answer, of this query or of another
  Answers : TargetRow → ToldLine
  -- ticks are gained or lost
  Changes : SetOperation → TargetRow → ToldLine
  Passes : ℕ → ToldLine
  Stops : ToldLine
  -- nothing of this query
  Nothing : ToldLine
  -- it is of the query, or the clock's, and hasn't the form
  Broken : ToldLine

-- a target, and the text of its ticks
unfoldable pub row_parts : List ℕ → Option (List ℕ × List ℕ)
row_parts text = do
  target ← before_text (codes " ") (cut_at_mark 58 text).0
  later ← (cut_at_mark 58 text).1
  ticks ← after_text (codes " ") later
  if is_target target then Some (target, ticks) else None

-- `a b : 1..4 7..9`
unfoldable pub row_in_text : List ℕ → Option TargetRow
row_in_text text = do
  parts ← row_parts text
  ticks ← spans_from 0 (words parts.1)
  Some (parts.0, ticks)

abbrev pub query_kind : List ℕ → Option QueryKind
query_kind word =
    if bytes_eq word (codes "watch") then Some Watch else if bytes_eq word (codes "keep") then Some Keep else None

-- `watch 5`
unfoldable pub start_of : List ℕ → Option (QueryKind × ℕ)
start_of text = do
  kind ← query_kind (cut_at_mark 32 text).0
  last ← (cut_at_mark 32 text).1
  clock ← tick_of last
  Some (kind, clock)

-- by the first word, and what follows the query's name
unfoldable pub told_of : List ℕ → Option (List ℕ) → ToldLine
told_of verb rest =
    if bytes_eq verb (codes "start") then option_map_or (λ s. Starts s.0 s.1) (option_and_then start_of rest) Broken
    else if bytes_eq verb (codes "gain") then option_map_or (Changes Union) (option_and_then row_in_text rest) Broken
    else if bytes_eq verb (codes "lose") then option_map_or (Changes Without) (option_and_then row_in_text rest) Broken
    else if bytes_eq verb (codes "stop") then (if is_none rest then Stops else Broken)
    else Nothing

-- the second word is the query's name
abbrev pub named : List ℕ → List ℕ → List ℕ → ToldLine
named name verb text = if bytes_eq (cut_at_mark 32 text).0 name then told_of verb (cut_at_mark 32 text).1 else Nothing

abbrev pub is_time_word : List ℕ → Bool
is_time_word word = bytes_eq word (codes "now") || bytes_eq word (codes "later") || bytes_eq word (codes "past")

unfoldable pub told_by_line : List ℕ → List ℕ → ToldLine
told_by_line name line =
    let verb = (cut_at_mark 32 line).0 in
    let rest = (cut_at_mark 32 line).1 in
    if bytes_eq verb (codes "clock") then option_map_or Passes (option_and_then tick_of rest) Broken
    else if is_time_word verb then option_map_or Answers (option_and_then row_in_text rest) Nothing
    else option_map_or (named name verb) rest Nothing

-- the first words of the lines that may say something of a query
abbrev pub is_feed_word : List ℕ → Bool
is_feed_word word =
    bytes_eq word (codes "clock") || (is_time_word word || (bytes_eq word (codes "start") || (bytes_eq word (codes "gain")
    || (bytes_eq word (codes "lose") || bytes_eq word (codes "stop")))))
