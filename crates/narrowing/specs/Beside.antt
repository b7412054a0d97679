-- Objects that are no further apart than so far, along each axis.
use Rattle.std.specs.Prelude.{◌≡◌, ℕ, ℤ, ◌-ℤ◌, ◌<◌, ◌≤◌, Bool, true, false, ◌&&◌, int_le, Option, List, [], length}
use Rattle.std.specs.List.Sorted.{IsStrictlyIncreasing}
use Rattle.std.specs.Option.{option_map_or}
use Rattle.fixed_point.specs.declared.number.Point.{Point}
use Rattle.geometry.specs.Region.{Region}
use Rattle.history.specs.History.{cells_at}
use Rattle.formula.specs.declared.tree.RAtom.{RAtom}
use Rattle.formula.specs.declared.value.Env.{Env}
use Rattle.meaning.specs.Atom.{position_in}
use Rattle.meaning.specs.Trace.{Trace}
use Rattle.object_store.specs.declared.areas.Area.{Area}
use Rattle.object_store.specs.declared.areas.Sides.{Sides}
use Rattle.object_store.specs.Areas.{is_between_sides, is_in_area}
use Rattle.object_store.specs.Contents.{history_of, ids_in}
use Rattle.relation.specs.Key.{has_id, ids_of_variable}
use Rattle.worlds.specs.Blurred.{possibly_holds}
use Rattle.narrowing.specs.declared.scene.Scene.{Scene}
use Rattle.narrowing.specs.Holding.{AreLost}

abbrev pub is_close : ℤ → ℤ → ℤ → Bool
is_close most m n = int_le (m -ℤ n) most && int_le (n -ℤ m) most

-- whether two points that are there are no further apart than so far, along x and along y
abbrev pub are_beside : ℤ → Option Point → Option Point → Bool
are_beside most first second =
    option_map_or (λ p. option_map_or (λ q. is_close most p.x q.x && is_close most p.y q.y) second false) first false

-- While the objects of two variables aren't so near to each other the atom isn't possible, where each position may be off
-- by the error.
abbrev pub NeedsBeside : ℕ → (v u : ℕ) → ℤ → RAtom → Type 0
NeedsBeside error v u most a = (regions : List Region) (h : Trace) (b : ℕ → ℕ) (x : Env) (t : ℕ)
    → are_beside most (position_in t (h v t)) (position_in t (h u t)) ≡ false → possibly_holds error regions h b a x t ≡ false

-- two objects are so near to each other at no tick of the window
abbrev pub IsApart : Scene → ℤ → (id other : ℕ) → Type 0
IsApart a most id other = (t : ℕ) → a.w.lo ≤ t → t ≤ a.w.hi
    → are_beside most (position_in t (cells_at (history_of a.store.now) id t)) (position_in t (cells_at (history_of a.store.now) other t)) ≡ false

-- what is near to a number between some sides is between the grown ones
abbrev pub IsGrownSides : ℤ → Sides → Sides → Type 0
IsGrownSides most sides grown = (m n : ℤ) → is_between_sides sides n ≡ true → is_between_sides grown m ≡ false → is_close most m n ≡ false

pub record IsGrown (most : ℤ) (area grown : Area) : Type 0 where
  pub x : IsGrownSides most area.x grown.x
  pub y : IsGrownSides most area.y grown.y

-- the ids are those of the domain of a variable
pub record AreDomainOf (v : ℕ) (domains : List (List ℕ)) (ids : List ℕ) : Type 0 where
  pub within : v < length domains
  pub are : ids ≡ ids_of_variable domains v

-- an object of a class that isn't among some ids is near to another one nowhere
abbrev pub AreFar : Scene → ℕ → ℤ → List ℕ → ℕ → Type 0
AreFar a class most ids other =
    (id : ℕ) → has_id (ids_in a.store.now.objects class) id ≡ true → has_id ids id ≡ false → IsApart a most id other

-- Ids, ascending, with all of a class that can come near to one of some others.
pub record AreBeside (a : Scene) (class : ℕ) (most : ℤ) (others ids : List ℕ) : Type 0 where
  pub ascending : IsStrictlyIncreasing ids
  pub far : AreLost (AreFar a class most ids) others []

-- Ids with all of some and those of a class that can come into an area.
pub record IsWithNear (a : Scene) (class : ℕ) (area : Area) (some ids : List ℕ) : Type 0 where
  pub all : (id : ℕ) → has_id ids id ≡ false → has_id some id ≡ false
  pub missed : (id : ℕ) → has_id (ids_in a.store.now.objects class) id ≡ true → has_id ids id ≡ false
      → (t : ℕ) → a.w.lo ≤ t → t ≤ a.w.hi → is_in_area area t (cells_at (history_of a.store.now) id t) ≡ false

-- Ids with all of some and those of a class that can come near to another object.
pub record IsWithThose (a : Scene) (class : ℕ) (most : ℤ) (other : ℕ) (some ids : List ℕ) : Type 0 where
  pub all : (id : ℕ) → has_id ids id ≡ false → has_id some id ≡ false
  pub far : AreFar a class most ids other
