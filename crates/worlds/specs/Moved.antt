-- Objects that are somewhat off: a list of how far, by object and tick.
use Rattle.std.specs.Prelude.{ℕ, ◌==◌, nat_le, ℤ, ◌+ℤ◌, unsigned_abs, Bool, false, not, ◌&&◌, Option, option_map, List}
use Rattle.std.specs.List.{find, list_all}
use Rattle.std.specs.Option.{option_map_or}
use Rattle.fixed_point.specs.declared.number.Point.{Point}
use Rattle.geometry.specs.Plane.{point}
use Rattle.geometry.specs.Region.{Region}
use Rattle.formula.specs.declared.tree.RAtom.{RAtom}
use Rattle.formula.specs.declared.tree.RAtom.TheVariants as atoms
use Rattle.formula.specs.declared.value.Env.{Env}
use Rattle.history.specs.World.{World}
use Rattle.meaning.specs.Atom.{atom_holds, distance_holds, is_in_region, position_in}
use Rattle.meaning.specs.Satisfaction.{Interpretation}
use Rattle.meaning.specs.Trace.{Trace, trace_of}
use Rattle.meaning.specs.Value.{term_value}

-- the object of a number is off by so much along each axis, in thousandths, at this tick
pub record Move : Type 0 where
  pub object : ℕ
  pub tick : ℕ
  pub dx : ℤ
  pub dy : ℤ

-- none is off by more than the error along an axis
abbrev pub is_world : ℕ → List Move → Bool
is_world error moves = list_all (λ m. nat_le (unsigned_abs m.dx) error && nat_le (unsigned_abs m.dy) error) moves

-- by how much an object is off at a tick: the first move counts, and where there is none it isn't off
abbrev pub first_move : List Move → ℕ → ℕ → Option Move
first_move moves id t = find (λ m. (m.object == id) && (m.tick == t)) moves

-- where an object is at a tick that seems to be at p
abbrev pub moved_place : List Move → ℕ → ℕ → Point → Point
moved_place moves id t p = option_map_or (λ m. point (p.x +ℤ m.dx) (p.y +ℤ m.dy)) (first_move moves id t) p

-- where the object of a variable is, None where it is absent or doesn't move
abbrev pub place_moved : List Move → Trace → (ℕ → ℕ) → ℕ → ℕ → Option Point
place_moved moves h b v t = option_map (moved_place moves (b v) t) (position_in t (h v t))

-- Regions and distances see where the objects are. Terms keep their values, and circles are judged by what seems.
abbrev pub atom_moved : List Move → List Region → Trace → (ℕ → ℕ) → RAtom → Env → ℕ → Bool
atom_moved moves regions h b (atoms.Inside v n) x t =
    option_map_or (is_in_region regions n) (place_moved moves h b v t) false
atom_moved moves regions h b (atoms.Outside v n) x t =
    option_map_or (λ p. not (is_in_region regions n p)) (place_moved moves h b v t) false
atom_moved moves regions h b (atoms.Dist v u op c) x t =
    distance_holds op c (place_moved moves h b v t) (place_moved moves h b u t)
atom_moved moves regions h b a x t = atom_holds regions h a x t

-- what a world tells of a binding's objects where they are off by these moves
abbrev pub in_world : List Move → World → (ℕ → ℕ) → Interpretation
in_world moves w b = record {
  atom = atom_moved moves w.regions (trace_of w.history b) b;
  term = term_value (trace_of w.history b);
}
