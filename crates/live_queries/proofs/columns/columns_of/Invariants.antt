use Rattle.std.proofs.Common.{◌≡◌, ℕ, ◌<◌, true, List, ◌++◌, length}
use Rattle.formula.specs.Tree.{resolved_view}
use Rattle.object_store.specs.Contents.{catalog_of}
use Rattle.live_queries.specs.Columns.{AreColumnsOf, Column, order_of}
use Rattle.live_queries.proofs.OrderLemmas.{among}
use Rattle.live_queries.proofs.columns.columns_of.Given as goal

-- the columns so far and those of the rest are those of all variables
abbrev pub invariant-variables : goal.invariant-variables
invariant-variables l = record {
  below : (v : ℕ) → among l.rest v ≡ true → v < length l.query.classes;
  made : (more : List Column) → AreColumnsOf (catalog_of l.store) l.query.classes l.rest more
      → AreColumnsOf (catalog_of l.store) l.query.classes (order_of (resolved_view l.query)) (l.columns.items ++ more);
}

abbrev pub decreases-variables : goal.decreases-variables
decreases-variables l = length l.rest
