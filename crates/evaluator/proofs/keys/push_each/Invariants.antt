use Rattle.std.proofs.Common.{◌≡◌, ◌∷◌, ◌++◌, map, take}
use Rattle.evaluator.proofs.keys.push_each.Given as goal

abbrev pub invariant-keys : goal.invariant-keys
invariant-keys l = l.keys.items ≡ l.initial.keys.items ++ map (λ key. l.id ∷ key) (take l.key-index l.later)
