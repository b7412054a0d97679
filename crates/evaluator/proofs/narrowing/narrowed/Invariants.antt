use Rattle.std.proofs.Common.{◌≡◌, ℕ, ◌<◌, length}
use Rattle.relation.specs.Key.{ids_of_variable}
use Rattle.evaluator.specs.Keys.{narrowed_ids}
use Rattle.evaluator.proofs.narrowing.narrowed.Given as goal

abbrev pub invariant-vars : goal.invariant-vars
invariant-vars l = record {
  many : length l.made ≡ l.var;
  ids : (v : ℕ) → v < l.var → ids_of_variable l.made v ≡ narrowed_ids l.d l.vars l.key v;
}
