-- A formula by its operator and its parts.
use Rattle.std.specs.Prelude.{ℕ, Bool, true, false, not, ◌&&◌, ◌||◌, nat_le, length, if◌then◌else◌}
use Rattle.tick_set.specs.Ticks.{within}
use Rattle.tick_set.specs.Operators.{always_at, eventually_at, next_at}
use Rattle.formula_shape.specs.Shape.{Shape}
use Rattle.formula.specs.Forms.{bounded_at, until_form_at}
use Rattle.formula.specs.Tree.{ResolvedTree, formula_view}
use Rattle.formula.specs.Variables.{variables_of}
use Rattle.evaluator.specs.declared.node.Change.{Change}
use Rattle.evaluator.specs.declared.node.Change.TheVariants as changes
use Rattle.evaluator.specs.declared.node.Pairing.{Pairing}
use Rattle.evaluator.specs.declared.node.Pairing.TheVariants as pairings
use Rattle.evaluator.specs.declared.node.Pair.{Pair}
use Rattle.evaluator.specs.declared.node.Node.{Node}
use Rattle.evaluator.specs.declared.node.Node.TheVariants as nodes
use Rattle.evaluator.specs.Assigned.{assignment_view}

-- the formula that an operator makes of one
abbrev pub changed_tree : Change → ResolvedTree → ResolvedTree
changed_tree changes.Not f = Shape.Not f
changed_tree changes.Next f = Shape.Next f
changed_tree changes.Eventually f = Shape.Eventually f
changed_tree changes.Always f = Shape.Always f
changed_tree (changes.Bounded form c) f = Shape.Bounded form c f

-- the formula that an operator makes of two
abbrev pub paired_tree : Pairing → ResolvedTree → ResolvedTree → ResolvedTree
paired_tree pairings.And f g = Shape.And f g
paired_tree pairings.Or f g = Shape.Or f g
paired_tree (pairings.Until form c) f g = Shape.Until form c f g

-- whether an operator holds nowhere where its left part holds nowhere
abbrev pub needs_left : Pairing → Bool
needs_left pairings.And = true
needs_left pairings.Or = false
needs_left (pairings.Until form c) = false

-- and where its right part does
abbrev pub needs_right : Pairing → Bool
needs_right pairings.And = true
needs_right pairings.Or = false
needs_right (pairings.Until form c) = true

-- whether the parts are the other way round where the one of fewer variables is to be on the right
abbrev pub turns : Pairing → ResolvedTree → ResolvedTree → Bool
turns pairings.And f g = nat_le (length (variables_of f)) (length (variables_of g))
turns pairings.Or f g = false
turns (pairings.Until form c) f g = false

abbrev pub ordered_tree : Pairing → ResolvedTree → ResolvedTree → ResolvedTree
ordered_tree p f g = if turns p f g then paired_tree p g f else paired_tree p f g

-- the tree of an operator with its two formulas
abbrev pub pair_view : Pair → ResolvedTree
pair_view p = paired_tree p.pairing (formula_view p.left.now) (formula_view p.right.now)

-- whether the operator holds at a tick of what holds at ticks, where e is the last tick that counts
abbrev pub changed_at : Change → (ℕ → Bool) → ℕ → ℕ → Bool
changed_at changes.Not g e t = not (g t)
changed_at changes.Next g e t = next_at g e t
changed_at changes.Eventually g e t = eventually_at g e t
changed_at changes.Always g e t = always_at g e t
changed_at (changes.Bounded form c) g e t = bounded_at form c g e t

abbrev pub paired_at : Pairing → (ℕ → Bool) → (ℕ → Bool) → ℕ → ℕ → Bool
paired_at pairings.And g h e t = g t && h t
paired_at pairings.Or g h e t = g t || h t
paired_at (pairings.Until form c) g h e t = until_form_at form c g h e t

-- the same in the window from lo to hi, of what holds at ticks of the window alone
abbrev pub paired_in : Pairing → ℕ → ℕ → (ℕ → Bool) → (ℕ → Bool) → ℕ → Bool
paired_in pairings.And lo hi g h t = g t && h t
paired_in pairings.Or lo hi g h t = g t || h t
paired_in (pairings.Until form c) lo hi g h t = within lo hi t && until_form_at form c g h hi t

-- the tree of a formula by its operator
abbrev pub node_view : Node → ResolvedTree
node_view (nodes.Truth holds) = Shape.Truth holds
node_view (nodes.Atom a) = Shape.Atom a.now
node_view (nodes.One change f) = changed_tree change (formula_view f.now)
node_view (nodes.Two pairing f g) = paired_tree pairing (formula_view f.now) (formula_view g.now)
node_view (nodes.Assign a) = assignment_view a
