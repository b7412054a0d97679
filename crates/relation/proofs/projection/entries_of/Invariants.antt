use Rattle.std.proofs.Common.{◌≡◌, ℕ, List, take}
use Rattle.std.specs.List.{All}
use Rattle.relation.specs.Entries.{IsEntry, entries_have}
use Rattle.relation.specs.Projection.{rows_over}
use Rattle.relation.specs.Rows.{AreRows}
use Rattle.relation.proofs.projection.entries_of.Given as goal

abbrev pub invariant-rows : goal.invariant-rows
invariant-rows g l = record {
  each : (domains : List (List ℕ)) (lo hi : ℕ) → AreRows g.S.TickSet.member domains l.own lo hi 0 l.rows → All (IsEntry g.S.TickSet.member l.rows domains l.vars lo hi) l.made.items;
  ticks : (key : List ℕ) (t : ℕ) → entries_have g.S.TickSet.member l.rows l.made.items key t ≡ rows_over g.S.TickSet.member l.own l.vars (take l.place l.rows) key t;
}
