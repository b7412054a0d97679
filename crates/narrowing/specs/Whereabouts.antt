-- Where the object of a first variable is, and formulas that hold nowhere there.
use Rattle.std.specs.Prelude.{◌≡◌, ℕ, ◌≤◌, Bool, true, ◌&&◌, Some, List}
use Rattle.fixed_point.specs.declared.number.Point.{Point}
use Rattle.geometry.specs.Region.{Region}
use Rattle.history.specs.History.{cells_at}
use Rattle.formula.specs.Tree.{ResolvedTree}
use Rattle.object_store.specs.declared.areas.Area.{Area}
use Rattle.object_store.specs.Areas.{is_between_sides, is_told}
use Rattle.object_store.specs.Contents.{Contents, history_of}
use Rattle.narrowing.specs.Needed.{Fails, told}

-- whether a place is in an area
abbrev pub has_place : Area → Point → Bool
has_place area p = is_between_sides area.x p.x && is_between_sides area.y p.y

-- an object is in the area at each of the ticks of lo to hi at which it is there
abbrev pub StaysInArea : Contents → ℕ → Area → ℕ → ℕ → Type 0
StaysInArea s id area lo hi = (t : ℕ) → lo ≤ t → t ≤ hi → is_told (Some area) t (cells_at (history_of s) id t) ≡ true

-- where the object of the first variable is so in the area, the formula holds at none of these ticks
abbrev pub FailsAt : Area → List Region → ResolvedTree → Type 0
FailsAt area regions f = (s : Contents) (b : ℕ → ℕ) (lo hi : ℕ) → StaysInArea s (b 0) area lo hi → Fails (told s regions b) lo hi f
