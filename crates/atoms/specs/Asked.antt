-- What may be asked of a store and its regions, and what they tell of atoms and terms.
use Rattle.std.specs.Prelude.{◌≡◌, ℕ, ◌+◌, ◌-◌, ◌<◌, ◌≤◌, true, List, length, IsTrue}
use Rattle.geometry.specs.Region.{Region}
use Rattle.tick_set.specs.declared.spans.TheConstants.{SPAN_LIMIT}
use Rattle.formula_shape.specs.declared.limits.TheConstants.{OBJECT_LIMIT}
use Rattle.formula.specs.Variables.{atom_has, term_has}
use Rattle.formula.specs.declared.tree.RAtom.{RAtom}
use Rattle.formula.specs.declared.tree.RTerm.{RTerm}
use Rattle.formula.specs.declared.value.Env.{Env}
use Rattle.history.specs.World.{World}
use Rattle.meaning.specs.Agreement.{world_with}
use Rattle.meaning.specs.Satisfaction.{Interpretation, plain}
use Rattle.meaning.specs.Trace.{trace_of}
use Rattle.meaning.specs.Value.{term_value}
use Rattle.object_store.specs.Contents.{Contents, history_of}
use Rattle.atoms.specs.declared.world.StoredWorld.{StoredWorld}
use Rattle.atoms.specs.Sizes.{is_sized, is_sized_term}
use Rattle.atoms.specs.ValueRuns.{HasValuesInRange}

-- what a query may ask of
abbrev pub world_in : Contents → List Region → World
world_in s regions = world_with (history_of s) regions

-- the same of a store and its regions in one
abbrev pub told_world : StoredWorld → World
told_world world = world_in world.store.now world.regions.now

-- what they tell where an assignment gives each variable an object
abbrev pub told_by : Contents → List Region → (ℕ → ℕ) → Interpretation
told_by s regions b = plain regions (trace_of (history_of s) b)

-- the variable is one that a query may have, and its object is there
pub record HasStored (s : Contents) (b : ℕ → ℕ) (v : ℕ) : Type 0 where
  pub few : v < OBJECT_LIMIT
  pub stored : b v < length s.objects

-- an atom of such variables, over the ticks of lo to hi
pub record CanAskAtom (s : Contents) (lo hi : ℕ) (b : ℕ → ℕ) (a : RAtom) : Type 0 where
  pub sized : IsTrue (is_sized a)
  pub objects : (v : ℕ) → atom_has v a ≡ true → HasStored s b v
  pub short : hi - lo ≤ SPAN_LIMIT

-- a term of such variables, where no number that it is leaves the range of numbers
pub record CanAskTerm (s : Contents) (lo hi : ℕ) (b : ℕ → ℕ) (q : RTerm) (x : Env) : Type 0 where
  pub sized : IsTrue (is_sized_term q)
  pub objects : (v : ℕ) → term_has v q ≡ true → HasStored s b v
  pub in_range : HasValuesInRange (term_value (trace_of (history_of s) b) q x) lo (hi + 1)
