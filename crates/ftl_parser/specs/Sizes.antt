-- The sizes of a query that have limits.
use Rattle.std.specs.Prelude.{ℕ, max, Bool, true, false, nat_lt, List, [], ◌∷◌, length, Option}
use Rattle.exact.specs.First.{first_that_holds}
pub use Rattle.formula_shape.specs.Sizes.{nodes, depth, nesting, has_not}
use Rattle.formula_shape.specs.Sizes.{largest_size, has_part}
use Rattle.formula_shape.specs.declared.limits.TheConstants.{OBJECT_LIMIT, NESTING_LIMIT, NODE_LIMIT, DEPTH_LIMIT, FACTOR_LIMIT}
use Rattle.ftl_parser.specs.declared.fault.Size.{Size}
use Rattle.ftl_parser.specs.declared.fault.Size.TheVariants as sizes
use Rattle.ftl_parser.specs.declared.tree.Atom as atom_type
use Rattle.ftl_parser.specs.declared.tree.Atom.TheVariants as atoms
use Rattle.ftl_parser.specs.Tree.{Tree, QueryTree}

-- the names of a circle
abbrev pub atom_objects : atom_type.Atom → ℕ
atom_objects (atoms.Compare t op u) = 0
atom_objects (atoms.Inside o p) = 0
atom_objects (atoms.Outside o p) = 0
atom_objects (atoms.Dist o n op c) = 0
atom_objects (atoms.Sphere r ns) = length ns

-- the most names of one circle
abbrev pub objects : Tree → ℕ
objects = largest_size atom_objects (λ _. 0)

-- the most factors of one term
abbrev pub atom_factors : atom_type.Atom → ℕ
atom_factors (atoms.Compare t op u) = max (length t.factors) (length u.factors)
atom_factors (atoms.Inside o p) = 0
atom_factors (atoms.Outside o p) = 0
atom_factors (atoms.Dist o n op c) = 0
atom_factors (atoms.Sphere r ns) = 0

abbrev pub factors : Tree → ℕ
factors = largest_size atom_factors (λ bound. length bound.1.factors)

-- whether an atom is a circle
abbrev pub is_circle : atom_type.Atom → Bool
is_circle (atoms.Compare t op u) = false
is_circle (atoms.Inside o p) = false
is_circle (atoms.Outside o p) = false
is_circle (atoms.Dist o n op c) = false
is_circle (atoms.Sphere r ns) = true

-- whether there is a circle in a formula
abbrev pub has_circle : Tree → Bool
has_circle = has_part is_circle (λ _. false)

-- whether each size passes its limit, in the order in which they are judged, where what is said of the lengths of names and texts is given
abbrev pub passed : Bool → QueryTree → List (Size × Bool)
passed long q =
    (sizes.Variables, nat_lt OBJECT_LIMIT (length q.from))
    ∷ (sizes.Objects, nat_lt OBJECT_LIMIT (objects q.formula))
    ∷ (sizes.Assignments, nat_lt NESTING_LIMIT (nesting q.formula))
    ∷ (sizes.Nodes, nat_lt NODE_LIMIT (nodes q.formula))
    ∷ (sizes.Depth, nat_lt DEPTH_LIMIT (depth q.formula))
    ∷ (sizes.Length, long)
    ∷ (sizes.Factors, nat_lt FACTOR_LIMIT (factors q.formula))
    ∷ []

-- the first size that passes its limit
abbrev pub first_too_large : Bool → QueryTree → Option Size
first_too_large long q = first_that_holds (passed long q)
