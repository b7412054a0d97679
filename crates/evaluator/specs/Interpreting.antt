-- What may be asked of atoms and terms.
use Rattle.std.specs.Prelude.{◌≡◌, ⊤, ℕ, ◌<◌, Bool, true, Some, List}
use Rattle.tick_set.specs.Ticks.{within}
use Rattle.formula_shape.specs.Shape as shapes
use Rattle.formula.specs.declared.tree.RAtom.{RAtom}
use Rattle.formula.specs.declared.tree.RTerm.{RTerm}
use Rattle.formula.specs.declared.value.Env.{Env}
use Rattle.formula.specs.declared.value.Value.{Value}
use Rattle.formula.specs.Tree.{ResolvedTree}
use Rattle.formula.specs.Value.{with_value}
use Rattle.formula.specs.Variables.{atom_has, has_variable, term_has}
use Rattle.meaning.specs.Satisfaction.{Interpretation}
use Rattle.relation.specs.Key.{has_id, ids_of_variable}

-- each variable that passes a test has one of its objects
abbrev pub IsInFor : List (List ℕ) → (ℕ → Bool) → (ℕ → ℕ) → Type 0
IsInFor domains test b = (v : ℕ) → test v ≡ true → has_id (ids_of_variable domains v) (b v) ≡ true

-- each variable of a formula is one of so many
abbrev pub IsOver : ℕ → ResolvedTree → Type 0
IsOver count f = (v : ℕ) → has_variable v f ≡ true → v < count

-- Each atom and term of a formula may be asked where its variables have objects of their domains, by the values that are
-- bound there: an assignment binds each value that its term has at a tick of lo to hi.
abbrev pub CanAsk : ((ℕ → ℕ) → Interpretation) → ((ℕ → ℕ) → RAtom → Env → Type 0) → ((ℕ → ℕ) → RTerm → Env → Type 0) →
    List (List ℕ) → ℕ → ℕ → ResolvedTree → Env → Type 0
CanAsk j P Q domains lo hi (shapes.Truth b) x = ⊤
CanAsk j P Q domains lo hi (shapes.Atom a) x = (b : ℕ → ℕ) → IsInFor domains (λ v. atom_has v a) b → P b a x
CanAsk j P Q domains lo hi (shapes.Not f) x = CanAsk j P Q domains lo hi f x
CanAsk j P Q domains lo hi (shapes.And f g) x = CanAsk j P Q domains lo hi f x × CanAsk j P Q domains lo hi g x
CanAsk j P Q domains lo hi (shapes.Or f g) x = CanAsk j P Q domains lo hi f x × CanAsk j P Q domains lo hi g x
CanAsk j P Q domains lo hi (shapes.Next f) x = CanAsk j P Q domains lo hi f x
CanAsk j P Q domains lo hi (shapes.Eventually f) x = CanAsk j P Q domains lo hi f x
CanAsk j P Q domains lo hi (shapes.Always f) x = CanAsk j P Q domains lo hi f x
CanAsk j P Q domains lo hi (shapes.Bounded form c f) x = CanAsk j P Q domains lo hi f x
CanAsk j P Q domains lo hi (shapes.Until form c f g) x = CanAsk j P Q domains lo hi f x × CanAsk j P Q domains lo hi g x
CanAsk j P Q domains lo hi (shapes.Assign (d, q) f) x =
    (b : ℕ → ℕ) → IsInFor domains (λ v. term_has v q) b →
    Q b q x × ((t : ℕ) → within lo hi t ≡ true → (v : Value) → (j b).term q x t ≡ Some v → CanAsk j P Q domains lo hi f (with_value x d v))
