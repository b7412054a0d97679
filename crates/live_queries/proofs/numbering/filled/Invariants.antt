use Rattle.std.proofs.Common.{◌≡◌, ℕ, ◌||◌, true, false, map}
use Rattle.std.specs.Prelude.{All}
use Rattle.tick_set.specs.Runs.{spans_have}
use Rattle.kept_rows.specs.Numbers.{counts, size_of}
use Rattle.kept_rows.specs.Rows.{HasRoom, row_has}
use Rattle.relation.specs.Rows.{has_at}
use Rattle.live_queries.specs.Columns.{column_variables, object_at_number}
use Rattle.live_queries.proofs.NumberedLemmas.{IsRowOf}
use Rattle.live_queries.proofs.numbering.filled.Given as goal

-- the rows that are left and those in the table make all rows, and no other number has a row
abbrev pub invariant-moved : goal.invariant-moved
invariant-moved l = record {
  next : goal.iterator-moved.can_next l.row-iterator;
  finite : goal.iterator-moved.is_finite l.row-iterator;
  room : HasRoom l.rows (size_of (column_variables l.columns));
  each : All (IsRowOf l.fn.full) l.row-iterator.rest.items;
  all : (c t : ℕ) → counts (column_variables l.columns) c ≡ true →
      (has_at spans_have l.row-iterator.rest.items (map (object_at_number l.columns c) l.fn.full.vars) t || row_has spans_have l.rows c t)
      ≡ has_at spans_have l.fn.full.rows (map (object_at_number l.columns c) l.fn.full.vars) t;
  none : (c t : ℕ) → counts (column_variables l.columns) c ≡ false → row_has spans_have l.rows c t ≡ false;
}
