-- The objects that have a value between two bounds, and when.
use Rattle.std.specs.Prelude.{ℕ, ◌≤◌, ℤ, pos, ◌<ℤ◌, int_le, Bool, false, ◌&&◌, None, List, [], ◌∷◌, map, slice_index, All}
use Rattle.std.specs.Option.{option_map_or}
use Rattle.case_table.specs.declared.compare.Op.{Op}
use Rattle.case_table.specs.declared.compare.Op.TheVariants as ops
use Rattle.history.specs.Catalog.{ids_of}
use Rattle.history.specs.History.{History}
use Rattle.formula_shape.specs.Shape as shapes
use Rattle.formula.specs.declared.limits.TheConstants.{DYNAMIC_BOUND}
use Rattle.formula.specs.declared.tree.RAtom.TheVariants as atoms
use Rattle.formula.specs.declared.tree.RTerm.{RTerm}
use Rattle.formula.specs.declared.tree.RUnit.{RUnit}
use Rattle.formula.specs.declared.tree.RUnit.TheVariants as units
use Rattle.formula.specs.Tree.{ResolvedQuery, ResolvedTree}
use Rattle.meaning.specs.Answer.{Row, rows_where}
use Rattle.plane.specs.Recorded.{Recorded}
use Rattle.plane.specs.Boxes.{Grid, last_covered, number_at}

abbrev pub is_between : (lo hi z : ℤ) → Bool
is_between lo hi z = int_le lo z && int_le z hi

-- whether an attribute of an object lies between two bounds at a tick
abbrev pub is_in_range : History → ℕ → (lo hi : ℤ) → (id t : ℕ) → Bool
is_in_range h attribute lo hi id t = option_map_or (is_between lo hi) (number_at h attribute id t) false

-- the rows of some objects, by the ticks of `from` to e at which their attribute lies between two bounds
abbrev pub rows_among : History → ℕ → (lo hi : ℤ) → (from e : ℕ) → List ℕ → List Row
rows_among h attribute lo hi from e ids =
    rows_where (map (λ id. id ∷ []) ids) (λ key t. is_in_range h attribute lo hi (slice_index key 0) t) from e

-- those of a class, in the order of first insertion
abbrev pub rows_in_range : History → (class attribute : ℕ) → (lo hi : ℤ) → (from e : ℕ) → List Row
rows_in_range h class attribute lo hi from e = rows_among h attribute lo hi from e (ids_of h.catalog class)

-- ---- The query that they answer

abbrev pub single_term : RUnit → RTerm
single_term unit = record { factors = record { minus = false; times = None; unit = unit } ∷ [] }

abbrev pub attribute_compared : ℕ → Op → ℤ → ResolvedTree
attribute_compared attribute op n =
    shapes.Atom (atoms.Compare (single_term (units.Attr 0 attribute (pos DYNAMIC_BOUND))) op (single_term (units.Literal n)))

-- RETRIEVE o FROM class o WHERE o.attribute >= lo AND o.attribute <= hi
abbrev pub range_query : (class attribute : ℕ) → (lo hi : ℤ) → ResolvedQuery
range_query class attribute lo hi = record {
  targets = 0 ∷ [];
  classes = class ∷ [];
  formula = shapes.And (attribute_compared attribute ops.Ge lo) (attribute_compared attribute ops.Le hi);
}

-- ---- Where the index tells them

-- The index covers the ticks `from` to e, and the last state of each object of its class is in force from the first of them on.
pub record IsCovered (r : Recorded) (g : Grid) (from e : ℕ) : Type 0 where
  pub width : pos 0 <ℤ g.width
  pub first : g.from ≤ from
  pub last : e ≤ last_covered g
  pub settled : All (λ id. r.begun id ≤ from) (ids_of r.history.catalog g.class)
