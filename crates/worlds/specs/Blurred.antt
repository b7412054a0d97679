-- Atoms where each position of an object may be off by an error, in thousandths, along each axis: whether one holds
-- surely, and whether it holds possibly.
use Rattle.std.specs.Prelude.{ℕ, ◌==◌, ℤ, Bool, true, false, not, Option, List, slice_get, if◌then◌else◌}
use Rattle.std.specs.Option.{option_map_or}
use Rattle.case_table.specs.declared.compare.Op.{Op}
use Rattle.fixed_point.specs.declared.number.Point.{Point}
use Rattle.geometry.specs.Region.{Region}
use Rattle.formula.specs.declared.tree.RAtom.{RAtom}
use Rattle.formula.specs.declared.tree.RAtom.TheVariants as atoms
use Rattle.formula.specs.declared.value.Env.{Env}
use Rattle.history.specs.World.{World}
use Rattle.meaning.specs.Atom.{atom_holds, position_in}
use Rattle.meaning.specs.Satisfaction.{Interpretation}
use Rattle.meaning.specs.Trace.{Trace, trace_of}
use Rattle.meaning.specs.Value.{term_value}
use Rattle.worlds.specs.Apart.{distance_compares_by, farthest_square, nearest_square, possibly_compares, surely_compares}
use Rattle.worlds.specs.Inside.{is_possibly_inside, is_surely_inside}

-- whether a point passes a test of the points of the region of a number
abbrev pub is_in_region_by : (List Point → Point → Bool) → List Region → ℕ → Point → Bool
is_in_region_by test regions n p = option_map_or (λ region. test region.points p) (slice_get regions n) false

-- whether the distance of two objects with these positions compares with c as `op` says, by a test of the least and the
-- greatest square
abbrev pub distance_holds_by : (Op → ℤ → ℤ → ℤ → Bool) → ℕ → Op → ℤ → Option Point → Option Point → Bool
distance_holds_by test error op c from to =
    option_map_or
    (λ p. option_map_or (λ q. distance_compares_by test op c (nearest_square error p q) (farthest_square error p q)) to false)
    from false

-- the error between the objects of two variables: an object is at no distance from itself
abbrev pub error_between : ℕ → (ℕ → ℕ) → ℕ → ℕ → ℕ
error_between error b v u = if b v == b u then 0 else error

-- Terms know no error, and circles aren't moved. As ever, each atom is false where one of its objects is absent.
abbrev pub surely_holds : ℕ → List Region → Trace → (ℕ → ℕ) → RAtom → Env → ℕ → Bool
surely_holds error regions h b (atoms.Inside v n) x t =
    option_map_or (is_in_region_by (is_surely_inside error) regions n) (position_in t (h v t)) false
surely_holds error regions h b (atoms.Outside v n) x t =
    option_map_or (λ p. not (is_in_region_by (is_possibly_inside error) regions n p)) (position_in t (h v t)) false
surely_holds error regions h b (atoms.Dist v u op c) x t =
    distance_holds_by surely_compares (error_between error b v u) op c (position_in t (h v t)) (position_in t (h u t))
surely_holds error regions h b a x t = atom_holds regions h a x t

abbrev pub possibly_holds : ℕ → List Region → Trace → (ℕ → ℕ) → RAtom → Env → ℕ → Bool
possibly_holds error regions h b (atoms.Inside v n) x t =
    option_map_or (is_in_region_by (is_possibly_inside error) regions n) (position_in t (h v t)) false
possibly_holds error regions h b (atoms.Outside v n) x t =
    option_map_or (λ p. not (is_in_region_by (is_surely_inside error) regions n p)) (position_in t (h v t)) false
possibly_holds error regions h b (atoms.Dist v u op c) x t =
    distance_holds_by possibly_compares (error_between error b v u) op c (position_in t (h v t)) (position_in t (h u t))
possibly_holds error regions h b a x t = atom_holds regions h a x t

abbrev pub atom_blurred : Bool → ℕ → List Region → Trace → (ℕ → ℕ) → RAtom → Env → ℕ → Bool
atom_blurred true = surely_holds
atom_blurred false = possibly_holds

-- what a world tells of a binding's objects: of each atom whether it holds surely, or else whether it does possibly
abbrev pub blurred : Bool → ℕ → World → (ℕ → ℕ) → Interpretation
blurred sure error w b = record {
  atom = atom_blurred sure error w.regions (trace_of w.history b) b;
  term = term_value (trace_of w.history b);
}
