-- How long rows stay as they are, and where rows are the same at two ticks.
use Rattle.std.specs.Prelude.{◌≡◌, ℕ, ◌+◌, ◌/◌, ◌<◌, ◌≤◌, Bool, List, slice_index_or}
use Rattle.tick_set.specs.declared.spans.Span.{Span}
use Rattle.tick_set.specs.Runs.{IsNormal, spans_have}
use Rattle.interval_set.specs.Cursor.{EndsFrom}
use Rattle.kept_rows.specs.declared.turns.Turns.{Turns}

-- each tick from `from` on and before `end` has what `from` has
abbrev pub IsSteady : (ℕ → Bool) → ℕ → ℕ → Type 0
IsSteady ticks from end = (u : ℕ) → from ≤ u → u < end → ticks u ≡ ticks from

-- `width` rows one after another share an end, and each is steady up to it; past the last end nothing is known
abbrev pub HaveEnds : ℕ → (ℕ → ℕ → Bool) → ℕ → List ℕ → Type 0
HaveEnds width rows seen ends = (c : ℕ) → IsSteady (rows c) seen (slice_index_or ends (c / width) 0)

-- the rows are steady up to the ends of their pages, and up to those of their groups of pages
pub record AreSteadyToEnds (rows : ℕ → ℕ → Bool) (turns : Turns) : Type 0 where
  pub pages : HaveEnds 16 rows turns.seen turns.pages.items
  pub groups : HaveEnds 1024 rows turns.seen turns.groups.items

-- from tick `seen` on the rows of the numbers from `from` up to `to` are steady up to tick `now`
abbrev pub AreSteadyIn : (ℕ → ℕ → Bool) → ℕ → ℕ → ℕ → ℕ → Type 0
AreSteadyIn rows seen now from to = (c : ℕ) → from ≤ c → c < to → IsSteady (rows c) seen (now + 1)

-- two tests agree at the numbers from `from` up to `to`
abbrev pub AgreeBetween : (ℕ → Bool) → (ℕ → Bool) → ℕ → ℕ → Type 0
AgreeBetween p q from to = (c : ℕ) → from ≤ c → c < to → p c ≡ q c

-- one of the numbers from `from` up to `to`, before which two tests agree
pub record IsNextDiffering (p q : ℕ → Bool) (from to number : ℕ) : Type 0 where
  pub least : from ≤ number
  pub below : number < to
  pub before : AgreeBetween p q from number

-- the spans without those that end before the tick
pub record AreSpansFrom (tick : ℕ) (spans rest : List Span) : Type 0 where
  pub normal : IsNormal rest
  pub ends : EndsFrom tick rest
  pub ticks : (u : ℕ) → tick ≤ u → spans_have spans u ≡ spans_have rest u
