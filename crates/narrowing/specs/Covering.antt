-- Areas in which an object is where an atom holds.
use Rattle.std.specs.Prelude.{◌≡◌, ℕ, ◌==◌, false, None, List, if◌then◌else◌}
use Rattle.geometry.specs.Region.{Region}
use Rattle.formula.specs.declared.tree.RAtom.{RAtom}
use Rattle.formula.specs.declared.value.Env.{Env}
use Rattle.meaning.specs.Trace.{Trace}
use Rattle.object_store.specs.declared.areas.Area.{Area}
use Rattle.object_store.specs.declared.areas.Sides.{Sides}
use Rattle.object_store.specs.Areas.{is_in_area}
use Rattle.worlds.specs.Blurred.{possibly_holds}

-- while the object of a variable is outside an area the atom isn't possible, where each position may be off by the error
abbrev pub Covers : ℕ → List Region → ℕ → RAtom → Area → Type 0
Covers error regions v a area =
    (h : Trace) (b : ℕ → ℕ) (x : Env) (t : ℕ) → is_in_area area t (h v t) ≡ false → possibly_holds error regions h b a x t ≡ false

abbrev pub open_sides : Sides
open_sides = record { least = None; greatest = None }

-- the plane where the coordinate of an index is between two sides
abbrev pub area_beside : ℕ → Sides → Area
area_beside index sides =
    if index == 0 then record { x = sides; y = open_sides } else record { x = open_sides; y = sides }
