-- When rows are those that an evaluation from nothing gives, at the ticks that are told.
use Rattle.std.specs.Prelude.{◌≡◌, ℕ, ◌≤◌, Bool, ◌&&◌, List, All}
use Rattle.tick_set.specs.Runs.{spans_have}
use Rattle.tick_set.specs.Ticks.{within}
use Rattle.history.specs.World.{World}
use Rattle.meaning.specs.Binding.{holds_full}
use Rattle.meaning.specs.Registered.{first_tick}
use Rattle.kept_rows.specs.Numbers.{counts}
use Rattle.kept_rows.specs.Rows.{row_has}
use Rattle.live_queries.specs.Columns.{HaveObjectsOf, column_variables, object_at_number}
use Rattle.live_queries.specs.Kept.{KeptQuery}

-- whether the row of a number has a tick
abbrev pub row_at : KeptQuery → ℕ → ℕ → Bool
row_at k number t = row_has spans_have k.pages number t

-- whether the binding of a number satisfies the query at a tick of its window
abbrev pub full_at : World → KeptQuery → ℕ → ℕ → Bool
full_at w k number t = within k.entry k.expiry t && holds_full w k.query k.expiry (object_at_number k.columns number) t

-- the first tick that is told of a query at tick `now` or later: of a watched one `now`, of a kept one its entry
abbrev pub told_from : KeptQuery → ℕ → ℕ
told_from k now = first_tick k.kind k.entry now

-- from a tick on, the row of each binding has the ticks at which it is full, and no other number has a tick
abbrev pub AreRowsFrom : ℕ → (ℕ → ℕ → Bool) → (ℕ → Bool) → (ℕ → ℕ → Bool) → Type 0
AreRowsFrom from rows counts full = (c t : ℕ) → from ≤ t → rows c t ≡ (counts c && full c t)

-- At tick `now` a query's variables range over the objects of their classes, and of the ticks that are told from then
-- on the row of each binding has those at which it satisfies the query. Of a watched query nothing is asked of the ticks
-- before.
pub record IsCurrentFor (w : World) (now : ℕ) (k : KeptQuery) : Type 0 where
  pub objects : HaveObjectsOf w.history.catalog k.query.classes k.columns
  pub rows : AreRowsFrom (told_from k now) (row_at k) (counts (column_variables k.columns)) (full_at w k)

abbrev pub AreCurrent : World → ℕ → List KeptQuery → Type 0
AreCurrent w now live = All (IsCurrentFor w now) live
