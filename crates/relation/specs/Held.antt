-- How values are held, and the objects of variables.
use Rattle.std.specs.Prelude.{◌≡◌, ◌≤◌, ℕ, List, length, take}
use Rattle.formula_shape.specs.declared.limits.TheConstants.{OBJECT_LIMIT}
use Rattle.relation.specs.Key.{AreDomains}
use Rattle.relation.specs.declared.few.Held.{Held}

-- the values
abbrev pub held_values : {T : Type 0} → Held T → List T
held_values (Held.One values) = values
held_values (Held.Any values) = values.items

-- places of which the first ones have the lists of domains
pub record AreHeld (lists : List (List ℕ)) (count : ℕ) : Type 0 where
  pub full : length lists ≡ OBJECT_LIMIT
  pub few : count ≤ OBJECT_LIMIT
  pub domains : AreDomains (take count lists)
