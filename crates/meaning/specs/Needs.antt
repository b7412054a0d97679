-- What a formula needs: atoms of which one must hold somewhere for the formula to hold.
use Rattle.std.specs.Prelude.{◌≡◌, ℕ, ◌≤◌, Bool, false, Option, None, Some, option_map, option_and_then, List, [], ◌∷◌, ◌++◌, if◌then◌else◌}
use Rattle.formula_shape.specs.Shape as shapes
use Rattle.formula.specs.declared.tree.RAtom.{RAtom}
use Rattle.formula.specs.declared.value.Env.{Env}
use Rattle.formula.specs.Tree.{ResolvedTree}
use Rattle.meaning.specs.Satisfaction.{Interpretation, sat}

-- none of these atoms holds at a tick of lo to hi, whatever values are bound
abbrev pub AreSilent : Interpretation → ℕ → ℕ → List RAtom → Type 0
AreSilent j lo hi [] = Unit {0}
AreSilent j lo hi (a ∷ atoms) =
    ((x : Env) (t : ℕ) → lo ≤ t → t ≤ hi → j.atom a x t ≡ false) × AreSilent j lo hi atoms

-- where none of these atoms holds from a tick to the last that counts, the formula holds at none of these ticks
abbrev pub Needs : ResolvedTree → List RAtom → Type 0
Needs f atoms = (j : Interpretation) (lo e : ℕ) → AreSilent j lo e atoms
    → (x : Env) (t : ℕ) → lo ≤ t → t ≤ e → sat j f x e t ≡ false

-- either of two lists will do: the first where it is told to be better, else the second
abbrev pub either_list : (List RAtom → List RAtom → Bool) → Option (List RAtom) → Option (List RAtom) → Option (List RAtom)
either_list is_better (Some left) (Some right) = Some (if is_better left right then left else right)
either_list is_better (Some left) None = Some left
either_list is_better None right = right

abbrev pub both_lists : Option (List RAtom) → Option (List RAtom) → Option (List RAtom)
both_lists left right = option_and_then (λ xs. option_map (λ ys. xs ++ ys) right) left

-- Atoms that pass a test and that a formula needs, None where there are none such. AND needs what either side needs,
-- OR what both need, UNTIL what its goal needs, and NOT nothing. An operator on one formula, and an assignment, needs
-- what its part needs.
abbrev pub needs_of : (RAtom → Bool) → (List RAtom → List RAtom → Bool) → ResolvedTree → Option (List RAtom)
needs_of passes is_better (shapes.Truth b) = if b then None else Some []
needs_of passes is_better (shapes.Atom a) = if passes a then Some (a ∷ []) else None
needs_of passes is_better (shapes.Not f) = None
needs_of passes is_better (shapes.And f g) =
    either_list is_better (needs_of passes is_better f) (needs_of passes is_better g)
needs_of passes is_better (shapes.Or f g) = both_lists (needs_of passes is_better f) (needs_of passes is_better g)
needs_of passes is_better (shapes.Next f) = needs_of passes is_better f
needs_of passes is_better (shapes.Eventually f) = needs_of passes is_better f
needs_of passes is_better (shapes.Always f) = needs_of passes is_better f
needs_of passes is_better (shapes.Bounded form c f) = needs_of passes is_better f
needs_of passes is_better (shapes.Until form c f g) = needs_of passes is_better g
needs_of passes is_better (shapes.Assign bound f) = needs_of passes is_better f
