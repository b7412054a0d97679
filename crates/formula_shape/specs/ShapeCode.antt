-- A code for the trees of formulas: a tree as the list of its nodes, each after its parts.
use Rattle.std.specs.Prelude.{◌≡◌, ℕ, Bool, true, refl, List, [], ◌∷◌, ◌++◌}
use Rattle.std.specs.Coded.{Coded, code_by}
use Rattle.std.proofs.Common.{◌∙◌, ap, append_assoc, sym, append-nil}
use Rattle.fixed_point.specs.declared.variants.BoundForm.{BoundForm}
use Rattle.fixed_point.specs.declared.variants.UntilForm.{UntilForm}
use Rattle.formula_shape.specs.Shape.{Shape}

-- a node without its parts
pub data Node (A B : Type 0) : Type 0 where
  truth : Bool → Node A B
  atom : A → Node A B
  not : Node A B
  and : Node A B
  or : Node A B
  next : Node A B
  eventually : Node A B
  always : Node A B
  bounded : BoundForm → ℕ → Node A B
  until : UntilForm → ℕ → Node A B
  assign : B → Node A B

abbrev pub nodes_of : {A B : Type 0} → Shape A B → List (Node A B)
nodes_of (Shape.Truth b) = truth b ∷ []
nodes_of (Shape.Atom a) = atom a ∷ []
nodes_of (Shape.Not f) = nodes_of f ++ not ∷ []
nodes_of (Shape.And f g) = nodes_of f ++ (nodes_of g ++ and ∷ [])
nodes_of (Shape.Or f g) = nodes_of f ++ (nodes_of g ++ or ∷ [])
nodes_of (Shape.Next f) = nodes_of f ++ next ∷ []
nodes_of (Shape.Eventually f) = nodes_of f ++ eventually ∷ []
nodes_of (Shape.Always f) = nodes_of f ++ always ∷ []
nodes_of (Shape.Bounded form ticks f) = nodes_of f ++ bounded form ticks ∷ []
nodes_of (Shape.Until form ticks f g) = nodes_of f ++ (nodes_of g ++ until form ticks ∷ [])
nodes_of (Shape.Assign b f) = nodes_of f ++ assign b ∷ []

-- a node over the trees that wait, the last one first
abbrev pub placed : {A B : Type 0} → Node A B → List (Shape A B) → List (Shape A B)
placed (truth b) s = Shape.Truth b ∷ s
placed (atom a) s = Shape.Atom a ∷ s
placed not (f ∷ s) = Shape.Not f ∷ s
placed and (g ∷ f ∷ s) = Shape.And f g ∷ s
placed or (g ∷ f ∷ s) = Shape.Or f g ∷ s
placed next (f ∷ s) = Shape.Next f ∷ s
placed eventually (f ∷ s) = Shape.Eventually f ∷ s
placed always (f ∷ s) = Shape.Always f ∷ s
placed (bounded form ticks) (f ∷ s) = Shape.Bounded form ticks f ∷ s
placed (until form ticks) (g ∷ f ∷ s) = Shape.Until form ticks f g ∷ s
placed (assign b) (f ∷ s) = Shape.Assign b f ∷ s
placed node s = s

abbrev pub built : {A B : Type 0} → List (Node A B) → List (Shape A B) → List (Shape A B)
built [] s = s
built (node ∷ nodes) s = built nodes (placed node s)

abbrev pub first_of : {A B : Type 0} → List (Shape A B) → Shape A B
first_of [] = Shape.Truth true
first_of (f ∷ s) = f

-- a node over trees that were built, with more nodes after it
abbrev join : {A B : Type 0} (ms : List (Node A B)) (n : Node A B) (later : List (Node A B)) (s t : List (Shape A B)) →
    built (ms ++ (n ∷ later)) s ≡ built (n ∷ later) t → built ((ms ++ n ∷ []) ++ later) s ≡ built (n ∷ later) t
join ms n later s t e = ap (λ ns. built ns s) (append_assoc ms (n ∷ []) later) ∙ e

abbrev join_two : {A B : Type 0} (ms ns : List (Node A B)) (n : Node A B) (later : List (Node A B))
    (s t u : List (Shape A B)) →
    built (ms ++ (ns ++ (n ∷ later))) s ≡ built (ns ++ (n ∷ later)) t →
    built (ns ++ (n ∷ later)) t ≡ built (n ∷ later) u →
    built ((ms ++ (ns ++ n ∷ [])) ++ later) s ≡ built (n ∷ later) u
join_two ms ns n later s t u d e =
    ap (λ xs. built xs s) (append_assoc ms (ns ++ n ∷ []) later ∙ ap (λ xs. ms ++ xs) (append_assoc ns (n ∷ []) later))
    ∙ d
    ∙ e

-- the nodes of a tree build it, whatever waits and comes after
pub built-nodes : {A B : Type 0} (f : Shape A B) (later : List (Node A B)) (s : List (Shape A B)) →
    built (nodes_of f ++ later) s ≡ built later (f ∷ s)
built-nodes (Shape.Truth b) later s = refl
built-nodes (Shape.Atom a) later s = refl
built-nodes (Shape.Not f) later s = join (nodes_of f) not later s (f ∷ s) (built-nodes f (not ∷ later) s)
built-nodes (Shape.And f g) later s =
    join_two (nodes_of f) (nodes_of g) and later s (f ∷ s) (g ∷ f ∷ s)
    (built-nodes f (nodes_of g ++ (and ∷ later)) s) (built-nodes g (and ∷ later) (f ∷ s))
built-nodes (Shape.Or f g) later s =
    join_two (nodes_of f) (nodes_of g) or later s (f ∷ s) (g ∷ f ∷ s)
    (built-nodes f (nodes_of g ++ (or ∷ later)) s) (built-nodes g (or ∷ later) (f ∷ s))
built-nodes (Shape.Next f) later s = join (nodes_of f) next later s (f ∷ s) (built-nodes f (next ∷ later) s)
built-nodes (Shape.Eventually f) later s =
    join (nodes_of f) eventually later s (f ∷ s) (built-nodes f (eventually ∷ later) s)
built-nodes (Shape.Always f) later s = join (nodes_of f) always later s (f ∷ s) (built-nodes f (always ∷ later) s)
built-nodes (Shape.Bounded form ticks f) later s =
    join (nodes_of f) (bounded form ticks) later s (f ∷ s) (built-nodes f (bounded form ticks ∷ later) s)
built-nodes (Shape.Until form ticks f g) later s =
    join_two (nodes_of f) (nodes_of g) (until form ticks) later s (f ∷ s) (g ∷ f ∷ s)
    (built-nodes f (nodes_of g ++ (until form ticks ∷ later)) s) (built-nodes g (until form ticks ∷ later) (f ∷ s))
built-nodes (Shape.Assign b f) later s =
    join (nodes_of f) (assign b) later s (f ∷ s) (built-nodes f (assign b ∷ later) s)

abbrev pub shape_of : {A B : Type 0} → List (Node A B) → Shape A B
shape_of nodes = first_of (built nodes [])

pub shape_of-listed : {A B : Type 0} (f : Shape A B) → shape_of (nodes_of f) ≡ f
shape_of-listed f = ap (λ ns. first_of (built ns [])) (sym (append-nil (nodes_of f))) ∙ ap first_of (built-nodes f [] [])

abbrev pub shape_code : {A B : Type 0} → Coded (List (Node A B)) → Coded (Shape A B)
shape_code {A} {B} c = code_by (List (Node A B)) c nodes_of shape_of shape_of-listed
