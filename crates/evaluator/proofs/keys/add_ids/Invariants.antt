use Rattle.std.proofs.Common.{◌≡◌, ◌++◌, take}
use Rattle.evaluator.proofs.keys.add_ids.Given as goal

abbrev pub invariant-ids : goal.invariant-ids
invariant-ids l = l.made ≡ l.initial.made ++ take l.id-index l.ids
