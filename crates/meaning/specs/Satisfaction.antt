-- Whether a formula holds at a tick, where e is the last tick that counts.
use Rattle.std.specs.Prelude.{ℕ, Bool, false, not, ◌&&◌, ◌||◌, Option, List}
use Rattle.std.specs.Option.{option_map_or}
use Rattle.geometry.specs.Region.{Region}
use Rattle.tick_set.specs.Operators.{next_at, eventually_at, always_at}
use Rattle.formula_shape.specs.Shape as shapes
use Rattle.formula.specs.declared.tree.RAtom.{RAtom}
use Rattle.formula.specs.declared.tree.RTerm.{RTerm}
use Rattle.formula.specs.declared.value.Env.{Env}
use Rattle.formula.specs.declared.value.Value.{Value}
use Rattle.formula.specs.Forms.{bounded_at, until_form_at}
use Rattle.formula.specs.Tree.{ResolvedTree}
use Rattle.formula.specs.Value.{with_value}
use Rattle.meaning.specs.Trace.{Trace}
use Rattle.meaning.specs.Value.{term_value}
use Rattle.meaning.specs.Atom.{atom_holds}

-- the truth of each atom and the value of each term, by the values that are bound and the tick
pub record Interpretation : Type 0 where
  pub atom : RAtom → Env → ℕ → Bool
  pub term : RTerm → Env → ℕ → Option Value

-- By what j tells of atoms and terms, with the values x that are bound, up to the tick e, at the tick t. `Assign (d, q) g`
-- binds the value that q has at t for all of g; d is the number of assignments round it.
abbrev pub sat : Interpretation → ResolvedTree → Env → ℕ → ℕ → Bool
sat j (shapes.Truth b) x e t = b
sat j (shapes.Atom a) x e t = j.atom a x t
sat j (shapes.Not g) x e t = not (sat j g x e t)
sat j (shapes.And g h) x e t = sat j g x e t && sat j h x e t
sat j (shapes.Or g h) x e t = sat j g x e t || sat j h x e t
sat j (shapes.Next g) x e t = next_at (sat j g x e) e t
sat j (shapes.Eventually g) x e t = eventually_at (sat j g x e) e t
sat j (shapes.Always g) x e t = always_at (sat j g x e) e t
sat j (shapes.Bounded form c g) x e t = bounded_at form c (sat j g x e) e t
sat j (shapes.Until form c g h) x e t = until_form_at form c (sat j g x e) (sat j h x e) e t
sat j (shapes.Assign (d, q) g) x e t = option_map_or (λ v. sat j g (with_value x d v) e t) (j.term q x t) false

-- what the regions and the states of the variables' objects tell
abbrev pub plain : List Region → Trace → Interpretation
plain regions h = record { atom = atom_holds regions h; term = term_value h }
