-- Pairs of objects: what moves along lines, and the ticks at which two objects are near to each other.
use Rattle.std.specs.Prelude.{◌≡◌, ℕ, ◌+◌, ◌-◌, ◌*◌, ◌<◌, ◌≤◌, ℤ, pos, ◌≤ℤ◌, ◌<ℤ◌, Bool, true, ◌&&◌, Some, List, [], ◌∷◌, length, map, slice_index, IfSome, IsTrue}
use Rattle.tick_set.specs.Ticks.{within}
use Rattle.tick_set.specs.declared.spans.TheConstants.{SPAN_LIMIT}
use Rattle.geometry.specs.Plane.{square}
use Rattle.geometry.specs.Region.{Region}
use Rattle.linear_crossing.specs.Moving.{distance_after, position_after}
use Rattle.history.specs.History.{cells_at}
use Rattle.formula.specs.Value.{no_values}
use Rattle.formula.specs.declared.tree.RAtom.{RAtom}
use Rattle.meaning.specs.Atom.{atom_holds, position_in}
use Rattle.meaning.specs.Trace.{trace_of}
use Rattle.object_store.specs.Contents.{Contents, history_of}
use Rattle.relation.specs.Key.{has_id, ids_of_variable}
use Rattle.atoms.specs.Sizes.{is_sized}
use Rattle.pairs.specs.Distance.{IsDistance}
use Rattle.pairs.specs.declared.distance.Distance.{Distance}
use Rattle.pairs.specs.Reach.{IsReachedAt}
use Rattle.pairs.specs.declared.movers.Mover.{Mover}
use Rattle.pairs.specs.declared.movers.Way.{Way}
use Rattle.pairs.specs.declared.rows.Scene.{Scene}

-- an object of a store, which goes its way, where it has one, from lo to hi
pub record IsMover (s : Contents) (lo hi : ℕ) (m : Mover) : Type 0 where
  pub stored : m.id < length s.objects
  pub along : IfSome m.way (λ way. (t : ℕ) → lo ≤ t → t ≤ hi → position_in t (cells_at (history_of s) m.id t) ≡ Some (position_after way.line (t - lo)))
  pub within : IfSome m.way (λ way. (k : ℕ) → k ≤ hi - lo → IsReachedAt way k)

-- two objects have ways, and these keep further from each other than so far
pub record AreApart (most : ℤ) (one other : Mover) : Type 0 where
  pub p : Way
  pub q : Way
  pub first : one.way ≡ Some p
  pub second : other.way ≡ Some q
  pub far : pos 0 ≤ℤ most → (k : ℕ) → IsReachedAt p k → IsReachedAt q k → square most <ℤ distance_after p.line q.line k

-- the objects, each as a key
abbrev pub keys_of : List Mover → List (List ℕ)
keys_of movers = map (λ m. m.id ∷ []) movers

-- an atom holds at a tick, where an assignment gives each variable an object
abbrev pub atom_at : Contents → List Region → RAtom → (ℕ → ℕ) → ℕ → Bool
atom_at s regions a b t = atom_holds regions (trace_of (history_of s) b) a no_values t

-- it does so of a key at a tick of the window
abbrev pub holds_in : Scene → List ℕ → ℕ → Bool
holds_in scene key t =
    within scene.w.lo scene.w.hi t && atom_at scene.world.store.now scene.world.regions.now scene.distance.atom.now (slice_index key) t

-- a distance that may be asked over a window
pub record CanAskDistance (d : Distance) (lo hi : ℕ) : Type 0 where
  pub distance : IsDistance d
  pub sized : IsTrue (is_sized d.atom.now)
  pub short : hi - lo ≤ SPAN_LIMIT

-- all objects that the variables range over are in the store
abbrev pub AreStored : Contents → List (List ℕ) → Type 0
AreStored s domains = (v id : ℕ) → has_id (ids_of_variable domains v) id ≡ true → id < length s.objects

-- one look at each object, and two at each pair
abbrev pub pair_reads : (ℕ → ℕ) → ℕ
pair_reads size = size 1 + size 0 * (1 + 2 * size 1)
