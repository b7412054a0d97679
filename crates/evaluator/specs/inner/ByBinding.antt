-- Formulas that are evaluated binding by binding.
use Rattle.std.specs.Prelude.{◌≡◌, ⊤, ℕ, ◌+◌, ◌-◌, Bool, true, ◌&&◌, ◌||◌, not, nat_le, Some, List, [], slice_index, if◌then◌else◌}
use Rattle.std.specs.List.{list_any}
use Rattle.std.specs.Str.{bytes_eq}
use Rattle.tick_set.specs.Ticks.{within}
use Rattle.formula_shape.specs.Shape as shapes
use Rattle.formula.specs.declared.tree.RAtom.{RAtom}
use Rattle.formula.specs.declared.tree.RTerm.{RTerm}
use Rattle.formula.specs.declared.value.Env.{Env}
use Rattle.formula.specs.declared.value.Value.{Value}
use Rattle.formula.specs.Tree.{ResolvedTree}
use Rattle.formula.specs.Value.{with_value}
use Rattle.meaning.specs.Reads.{atom_variables, reads, term_variables}
use Rattle.meaning.specs.Satisfaction.{Interpretation, sat}
use Rattle.relation.specs.Key.{has_id}
use Rattle.evaluator.specs.Keys.{binding_of}

-- whether a variable gives a key of these variables no more choices than it gives one of these others of its own
abbrev pub adds_no_choice : (ℕ → ℕ) → List ℕ → List ℕ → ℕ → Bool
adds_no_choice size vars own v = if has_id own v then has_id vars v else (not (has_id vars v) || nat_le (size v) 1)

-- whether there are no more keys of these variables than of these others of its own, where what has them is asked once
-- for each key; what has none takes no look at a timeline
abbrev pub asks_no_more : (ℕ → ℕ) → List ℕ → List ℕ → Bool
asks_no_more size vars own = bytes_eq own []
    || (adds_no_choice size vars own 0 && (adds_no_choice size vars own 1 && (adds_no_choice size vars own 2 && adds_no_choice size vars own 3)))

-- whether no atom of a formula is asked more often at each key of these variables than at each key of its own, and each
-- term whose value it binds has exactly these variables
abbrev pub is_over : (ℕ → ℕ) → List ℕ → ResolvedTree → Bool
is_over size vars = shapes.fold_shape (record {
  truth = λ _. true;
  atom = λ a. asks_no_more size vars (atom_variables a);
  negation = λ b. b;
  later = λ b. b;
  binary = λ b c. b && c;
  assignment = λ bound b. bytes_eq (term_variables bound.1) vars && b;
})

-- Each atom and term of a formula may be asked, by the values that are bound there: an assignment binds each value that
-- its term has at a tick of lo to hi.
abbrev pub CanAskHere : Interpretation → (RAtom → Env → Type 0) → (RTerm → Env → Type 0) → ℕ → ℕ → ResolvedTree → Env → Type 0
CanAskHere j P Q lo hi (shapes.Truth b) x = ⊤
CanAskHere j P Q lo hi (shapes.Atom a) x = P a x
CanAskHere j P Q lo hi (shapes.Not f) x = CanAskHere j P Q lo hi f x
CanAskHere j P Q lo hi (shapes.And f g) x = CanAskHere j P Q lo hi f x × CanAskHere j P Q lo hi g x
CanAskHere j P Q lo hi (shapes.Or f g) x = CanAskHere j P Q lo hi f x × CanAskHere j P Q lo hi g x
CanAskHere j P Q lo hi (shapes.Next f) x = CanAskHere j P Q lo hi f x
CanAskHere j P Q lo hi (shapes.Eventually f) x = CanAskHere j P Q lo hi f x
CanAskHere j P Q lo hi (shapes.Always f) x = CanAskHere j P Q lo hi f x
CanAskHere j P Q lo hi (shapes.Bounded form c f) x = CanAskHere j P Q lo hi f x
CanAskHere j P Q lo hi (shapes.Until form c f g) x = CanAskHere j P Q lo hi f x × CanAskHere j P Q lo hi g x
CanAskHere j P Q lo hi (shapes.Assign (d, q) f) x =
    Q q x × ((t : ℕ) → within lo hi t ≡ true → (v : Value) → j.term q x t ≡ Some v → CanAskHere j P Q lo hi f (with_value x d v))

-- the ticks of lo to hi at which a formula holds
abbrev pub AreTicksOf : {S : Type 0} → (S → ℕ → Bool) → Interpretation → ℕ → ℕ → ResolvedTree → Env → S → Type 0
AreTicksOf member j lo hi f x s = (t : ℕ) → member s t ≡ (within lo hi t && sat j f x hi t)

-- whether a formula holds at the binding of a key, at a tick of lo to hi
abbrev pub holds_at : ((ℕ → ℕ) → Interpretation) → List ℕ → ℕ → ℕ → ResolvedTree → Env → List ℕ → ℕ → Bool
holds_at j vars lo hi f x key t = within lo hi t && sat (j (slice_index (binding_of vars key))) f x hi t

-- whether one of the sets has the tick
abbrev pub any_member : {S : Type 0} → (S → ℕ → Bool) → List S → ℕ → Bool
any_member member sets t = list_any (λ s. member s t) sets

-- the most looks at timelines that a formula may take at one binding over the ticks of lo to hi
abbrev pub reads_here : ℕ → ℕ → ResolvedTree → ℕ
reads_here lo hi f = reads (λ _. 1) (hi + 1 - lo) f
