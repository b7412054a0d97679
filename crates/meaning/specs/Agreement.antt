-- Interpretations and traces that agree, or of which one has more, as far as a formula asks.
use Rattle.std.specs.Prelude.{◌≡◌, ℕ, ◌<◌, ◌≤◌, true, List, length}
use Rattle.geometry.specs.Region.{Region}
use Rattle.tick_set.specs.Ticks.{AgreeIn}
use Rattle.history.specs.History.{History}
use Rattle.history.specs.World.{World}
use Rattle.formula_shape.specs.Shape.{fold_types}
use Rattle.formula.specs.declared.value.Env.{Env}
use Rattle.formula.specs.Tree.{ResolvedQuery, ResolvedTree}
use Rattle.formula.specs.Variables.{has_variable}
use Rattle.meaning.specs.Trace.{Trace}
use Rattle.meaning.specs.Satisfaction.{Interpretation}

-- the same truth of each atom of a formula, and the same value of each term that it binds, at each tick of lo to hi
abbrev pub Agree : Interpretation → Interpretation → ℕ → ℕ → ResolvedTree → Type 0
Agree j k lo hi =
    fold_types
    (λ a. (x : Env) → AgreeIn lo hi (j.atom a x) (k.atom a x))
    (λ bound. (x : Env) (t : ℕ) → lo ≤ t → t ≤ hi → j.term bound.1 x t ≡ k.term bound.1 x t)

-- the same states of each variable of a formula at each tick of lo to hi
abbrev pub SameStates : Trace → Trace → ℕ → ℕ → ResolvedTree → Type 0
SameStates h k lo hi f = (v : ℕ) → has_variable v f ≡ true → (t : ℕ) → lo ≤ t → t ≤ hi → h v t ≡ k v t

-- each atom of a formula that holds by the first holds by the second, and the terms that it binds have the same values
abbrev pub HasMore : Interpretation → Interpretation → ResolvedTree → Type 0
HasMore j k =
    fold_types
    (λ a. (x : Env) (t : ℕ) → j.atom a x t ≡ true → k.atom a x t ≡ true)
    (λ bound. (x : Env) (t : ℕ) → j.term bound.1 x t ≡ k.term bound.1 x t)

-- each variable of the formula is one of the query's
abbrev pub SeesItsClasses : ResolvedQuery → Type 0
SeesItsClasses q = (v : ℕ) → has_variable v q.formula ≡ true → v < length q.classes

abbrev pub world_with : History → List Region → World
world_with h regions = record { history = h; regions = regions }
