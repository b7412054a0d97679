use Rattle.std.proofs.Common.{◌≡◌, map, take}
use Rattle.std.specs.Prelude.{slice_index}
use Rattle.evaluator.proofs.AwayLemmas.{keys_at}
use Rattle.evaluator.proofs.column.first_objects.Given as goal

abbrev pub invariant-places : goal.invariant-places
invariant-places g l = record {
  items : l.ids.items ≡ map (λ k. slice_index k 0) (take l.place (keys_at l.rows));
}
