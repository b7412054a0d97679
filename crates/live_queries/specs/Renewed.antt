-- What a write to an object makes of a registered query.
use Rattle.std.specs.Prelude.{◌≡◌, ℕ, ◌-◌, ◌<◌, ◌≤◌, Bool, true, false, ◌&&◌, nat_le, Option, None, Some, List, ◌++◌, length}
use Rattle.tick_set.specs.Ticks.{within}
use Rattle.geometry.specs.Region.{Region}
use Rattle.formula.specs.Reach.{reach}
use Rattle.formula.specs.declared.kind.QueryKind.{QueryKind}
use Rattle.formula.specs.declared.kind.QueryKind.TheVariants.{Keep, Watch}
use Rattle.history.specs.Catalog.{Catalog}
use Rattle.history.specs.History.{cells_at}
use Rattle.history.specs.World.{World}
use Rattle.kept_rows.specs.Numbers.{counts}
use Rattle.meaning.specs.Binding.{holds_full}
use Rattle.live_queries.specs.Columns.{AreSameColumns, Column, HaveObjectsOf, column_variables, gives, object_at_number}
use Rattle.live_queries.specs.Current.{row_at, told_from}
use Rattle.live_queries.specs.Kept.{KeptQuery}

-- an object that wasn't there before is the one of this number
abbrev pub AddsAtMost : ℕ → Catalog → Catalog → Type 0
AddsAtMost id old new = (i : ℕ) → length old.objects ≤ i → i < length new.objects → i ≡ id

-- the classes may be more, and the regions after those that there were
pub record ChangesNoObject (old new : World) : Type 0 where
  pub objects : new.history.catalog.objects ≡ old.history.catalog.objects
  pub states : (i t : ℕ) → cells_at new.history i t ≡ cells_at old.history i t
  pub more : List Region
  pub regions : new.regions ≡ old.regions ++ more

-- all but the objects and the rows is as before
pub record IsSameRequest (old new : KeptQuery) : Type 0 where
  pub name : new.name ≡ old.name
  pub kind : new.kind ≡ old.kind
  pub query : new.query ≡ old.query
  pub entry : new.entry ≡ old.entry
  pub expiry : new.expiry ≡ old.expiry
  pub columns : AreSameColumns old.columns new.columns

-- whether the row of a number is judged anew: the query runs still, and the binding has the object
abbrev pub is_judged : ℕ → ℕ → KeptQuery → List Column → ℕ → Bool
is_judged id now k columns c = nat_le now k.expiry && (counts (column_variables columns) c && gives columns id c)

-- The first tick of which a write at tick `now` may change what is told: of a watched query `now`, of a kept one the
-- first that sees `now`, by how many ticks ahead its formula sees. Where that has no end it is any tick.
abbrev pub judged_tick : QueryKind → Option ℕ → ℕ → ℕ
judged_tick Watch ahead now = now
judged_tick Keep None now = 0
judged_tick Keep (Some ahead) now = now - ahead

abbrev pub judged_from : KeptQuery → ℕ → ℕ
judged_from k now = judged_tick k.kind (reach k.query.formula) now

-- Each row that isn't judged stays, at every tick. A judged one has, of the ticks that are told from the write on, those
-- at which its binding satisfies the query in this world; it stays at those before the first that the write may change.
pub record AreRenewedRows (w : World) (id now : ℕ) (k : KeptQuery) (columns : List Column) (rows : ℕ → ℕ → Bool) : Type 0 where
  pub stay : (c : ℕ) → is_judged id now k columns c ≡ false → (t : ℕ) → rows c t ≡ row_at k c t
  pub past : (c : ℕ) → is_judged id now k columns c ≡ true → (t : ℕ) → told_from k now ≤ t → t < judged_from k now →
      rows c t ≡ row_at k c t
  pub anew : (c : ℕ) → is_judged id now k columns c ≡ true → (t : ℕ) → told_from k now ≤ t → judged_from k now ≤ t →
      rows c t ≡ (within k.entry k.expiry t && holds_full w k.query k.expiry (object_at_number columns c) t)

-- its variables range over the objects of this world, and its rows are renewed
pub record IsRenewed (w : World) (id now : ℕ) (old new : KeptQuery) : Type 0 where
  pub head : IsSameRequest old new
  pub objects : HaveObjectsOf w.history.catalog new.query.classes new.columns
  pub rows : AreRenewedRows w id now old new.columns (row_at new)
