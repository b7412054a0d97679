use Rattle.std.proofs.Common.{◌≡◌, ◌∷◌, map, take}
use Rattle.std.specs.List.{flat_map}
use Rattle.evaluator.proofs.keys.keys_with.Given as goal

abbrev pub invariant-ids : goal.invariant-ids
invariant-ids l = l.keys.items ≡ flat_map (λ id. map (λ key. id ∷ key) l.later) (take l.id-index l.ids)
