use Rattle.std.proofs.Common.{◌≡◌, ℕ, ◌<◌, length}
use Rattle.relation.specs.Key.{ids_of_variable}
use Rattle.evaluator.specs.inner.Column.{ids_left}
use Rattle.evaluator.proofs.column.domains_for.Given as goal

abbrev pub invariant-vars : goal.invariant-vars
invariant-vars g l = record {
  many : length l.made ≡ l.var;
  ids : (v : ℕ) → v < l.var → ids_of_variable l.made v ≡ ids_left l.rows.vars l.rows.rows l.rows.domains v;
}
