-- What a query, its columns and a written object must be for rows to be judged anew, and what these are then.
use Rattle.std.specs.Prelude.{◌≡◌, ℕ, true, ◌&&◌, nat_le, List, map, if◌then◌else◌}
use Rattle.tick_set.specs.declared.spans.Span.{Span}
use Rattle.tick_set.specs.Runs.{spans_have}
use Rattle.tick_set.specs.Ticks.{within}
use Rattle.tick_set.specs.Windows.{IsQueryWindow}
use Rattle.formula.specs.Resolved.{IsResolved}
use Rattle.formula.specs.Tree.{resolved_view}
use Rattle.meaning.specs.Binding.{holds_full}
use Rattle.meaning.specs.Fits.{FitsItsClasses}
use Rattle.object_store.specs.Contents.{catalog_of}
use Rattle.atoms.specs.Asked.{told_world}
use Rattle.answers.specs.Objects.{IsOfAcceptedWrites}
use Rattle.kept_rows.specs.declared.change.Change.{Change}
use Rattle.kept_rows.specs.Changes.{rows_after}
use Rattle.kept_rows.specs.Numbers.{IsBindingCount, counts, size_of}
use Rattle.kept_rows.specs.Rows.{HasRoom, row_has}
use Rattle.live_queries.specs.declared.written.Arrival.{Arrival}
use Rattle.live_queries.specs.declared.written.Judged.{Judged}
use Rattle.live_queries.specs.Asked.{IsObjectWithClass}
use Rattle.live_queries.specs.Columns.{AreCounted, Column, column_variables, gives, object_at_number, order_of}
use Rattle.live_queries.specs.Prepared.{AreColumnsWith, HaveRoomFor}
use Rattle.live_queries.specs.Written.{HaveObjectsWith}

-- a query can be judged in its world over its window
pub record CanBeJudged (j : Judged) : Type 0 where
  pub accepted : IsOfAcceptedWrites j.world.now.store.now
  pub resolved : IsResolved (resolved_view j.query.now)
  pub fits : FitsItsClasses (told_world j.world.now) (resolved_view j.query.now)
  pub length : IsQueryWindow j.w

-- its rows have numbers by these columns, and there is room for those of all bindings
pub record AreColumnsOfRows (j : Judged) (columns : List Column) : Type 0 where
  pub order : map (λ c. c.variable) columns ≡ order_of (resolved_view j.query.now)
  pub counted : AreCounted columns
  pub size : IsBindingCount (size_of (column_variables columns))
  pub pages : HasRoom j.rows.now (size_of (column_variables columns))

-- an object of its world comes to the columns, which have then all objects of their classes
pub record ComesTo (j : Judged) (columns : List Column) (a : Arrival) : Type 0 where
  pub object : IsObjectWithClass j.world.now.store.now a.object.now.id a.object.now.class
  pub room : a.grows ≡ true → HaveRoomFor a.object.now.class j.query.now.classes columns
  pub objects : HaveObjectsWith (catalog_of j.world.now.store.now) a.grows a.object.now.class j.query.now.classes a.object.now.id columns

-- the rows of the bindings with the object are judged anew from a tick on, and each other row is as it was
abbrev pub AreJudgedRows : Judged → List Column → Arrival → List (Change (List Span)) → Type 0
AreJudgedRows j columns a changes =
    (ds : List Column) → AreColumnsWith a.grows a.object.now.class j.query.now.classes a.object.now.id columns ds → (c t : ℕ) →
    rows_after spans_have changes (row_has spans_have j.rows.now) c t
    ≡ (if (counts (column_variables ds) c && gives ds a.object.now.id c) && nat_le j.from t
    then (within j.w.lo j.w.hi t && holds_full (told_world j.world.now) (resolved_view j.query.now) j.w.hi (object_at_number ds c) t)
    else row_has spans_have j.rows.now c t)
