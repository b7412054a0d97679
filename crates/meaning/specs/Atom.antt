-- Whether an atom holds at a tick.
use Rattle.std.specs.Prelude.{ℕ, ℤ, Bool, false, not, Option, Some, option_map, option_and_then, List, [], ◌∷◌, slice_get}
use Rattle.std.specs.Option.{option_map_or}
use Rattle.case_table.specs.declared.compare.Op.{Op}
use Rattle.fixed_point.specs.declared.number.Point.{Point}
use Rattle.geometry.specs.Circle.{fits}
use Rattle.geometry.specs.Distance.{distance_compares}
use Rattle.geometry.specs.Plane.{point, squared_distance}
use Rattle.geometry.specs.Polygon.{is_inside}
use Rattle.geometry.specs.Region.{Region}
use Rattle.motion.specs.Dynamic.{Dynamic, value_at}
use Rattle.motion.specs.declared.cell.Cell.{Cell}
use Rattle.motion.specs.declared.cell.Cell.TheVariants as cells
use Rattle.motion.specs.Cells.{dynamic_of}
use Rattle.formula.specs.declared.tree.RAtom.{RAtom}
use Rattle.formula.specs.declared.tree.RAtom.TheVariants as atoms
use Rattle.formula.specs.declared.value.Env.{Env}
use Rattle.meaning.specs.Trace.{Trace}
use Rattle.meaning.specs.Value.{cell_in, term_value, values_compare}

abbrev pub dynamic_in : Option (List Cell) → ℕ → Option Dynamic
dynamic_in cells a = option_and_then dynamic_of (cell_in cells a)

-- where two dynamic attributes are at a tick, as x and y
abbrev pub place_by : Option Dynamic → Option Dynamic → ℕ → Option Point
place_by x y t = option_and_then (λ u. option_map (λ v. point (value_at u t) (value_at v t)) y) x

-- where an object with these cells is, by its first two attributes: None where it is absent, or one of these is static
abbrev pub position_in : ℕ → Option (List Cell) → Option Point
position_in t cells = place_by (dynamic_in cells 0) (dynamic_in cells 1) t

-- the positions of the objects of some variables, where each has one
abbrev pub positions_of : Trace → ℕ → List ℕ → Option (List Point)
positions_of h t [] = Some []
positions_of h t (v ∷ vs) =
    option_and_then (λ p. option_map (λ ps. p ∷ ps) (positions_of h t vs)) (position_in t (h v t))

-- whether a point is in the region of a number
abbrev pub is_in_region : List Region → ℕ → Point → Bool
is_in_region regions n p = option_map_or (λ region. is_inside region.points p) (slice_get regions n) false

-- whether the distance of two points that are there compares with c as `op` says
abbrev pub distance_holds : Op → ℤ → Option Point → Option Point → Bool
distance_holds op c from to =
    option_map_or (λ p. option_map_or (λ q. distance_compares op c (squared_distance p q)) to false) from false

-- Each atom is false where one of its objects is absent, OUTSIDE and `!=` too.
abbrev pub atom_holds : List Region → Trace → RAtom → Env → ℕ → Bool
atom_holds regions h (atoms.Compare q op r) x t = values_compare op (term_value h q x t) (term_value h r x t)
atom_holds regions h (atoms.Inside v n) x t = option_map_or (is_in_region regions n) (position_in t (h v t)) false
atom_holds regions h (atoms.Outside v n) x t =
    option_map_or (λ p. not (is_in_region regions n p)) (position_in t (h v t)) false
atom_holds regions h (atoms.Dist v u op c) x t = distance_holds op c (position_in t (h v t)) (position_in t (h u t))
atom_holds regions h (atoms.Sphere r vs) x t = option_map_or (fits r) (positions_of h t vs) false
