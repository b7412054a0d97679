-- What is found, as a contract says it.
use Rattle.std.proofs.Common.{◌≡◌, ℕ, ◌<◌, ◌≤◌, ℤ, unsigned_abs, Bool, true, false, ◌&&◌, cond, Ordering, Less, is_lt, Result, Ok, Err, List, length, map, refl, sym, ap, subst, ◌∙◌, arith}
use Rattle.std.specs.Prelude.{int_lt, slice_index, IfOk}
use Rattle.std.specs.List.{filter, list_any}
use Rattle.std.proofs.lemmas.Bool.{false≢true}
use Rattle.fixed_point.specs.declared.number.TheConstants.{FIX_LIMIT}
use Rattle.tick_set.specs.Ticks.{between}
use Rattle.object_store.specs.Contents.{Contents}
use Rattle.plane.specs.Boxes.{Grid, Strips, candidates, slice_meets, strips_between, strips_meet}
use Rattle.plane.specs.declared.limits.TheConstants.{SLICES}
use Rattle.plane_index.specs.Index.{Index, fresh_at, index_of, IsFresh, IsIndexOf}
use Rattle.plane_index.specs.States.{strips_at}
use Rattle.plane_index.specs.Lines.{strips_as}
use Rattle.plane_index.specs.Told.{recorded_by}
use Rattle.plane_index.specs.declared.cover.Cover.{Cover}
use Rattle.plane_index.specs.declared.state.State.{State}
use Rattle.plane_index.proofs.IndexLemmas.{candidates_found}

-- what was marked, over the places of the objects and the states that were passed
pub record AreMarked (grid : Grid) (lo hi : ℤ) (from e : ℕ) (asked : Cover) (count : ℕ) (states : List State) (marks : List Bool) : Type 0 where
  pub asked_is : strips_as asked ≡ strips_between grid.width lo hi
  pub small : unsigned_abs asked.last ≤ FIX_LIMIT
  pub order : int_lt hi lo ≡ false
  pub met : (k : ℕ) → k < count → fresh_at marks k
      ≡ list_any (λ j. slice_meets grid from e j && strips_meet (strips_as asked) (strips_at grid states k j)) (between 0 SLICES)

pub not_less : (b : Bool) (o : Ordering) → is_lt (cond b Less o) ≡ false → b ≡ false
not_less true o is = absurd (false≢true (sym is))
not_less false o is = refl

last_of : (asked : Cover) (strips : Strips) → strips_as asked ≡ strips → unsigned_abs asked.last ≤ FIX_LIMIT → unsigned_abs strips.last ≤ FIX_LIMIT
last_of asked strips is small = subst (λ (those : Strips). unsigned_abs those.last ≤ FIX_LIMIT) is small

pub told : {V E : Type 0} (items : V → List ℕ) (r : Result V E) (grid : Grid) (ids there : List ℕ) (fresh marks : List Bool) (states : List State) (index : Index)
    (lo hi : ℤ) (from e count : ℕ) (asked : Cover) → index_of grid ids fresh states ≡ index → there ≡ ids → count ≡ length ids →
    AreMarked grid lo hi from e asked count states marks →
    IfOk r (λ found. items found ≡ map (slice_index there) (filter (fresh_at marks) (between 0 (length there)))) →
    IfOk r (λ found. (s : Contents) → IsIndexOf s index → IsFresh s index → items found ≡ candidates (recorded_by s) index.grid lo hi from e)
told items (Err x) grid ids there fresh marks states index lo hi from e count asked same those size are is = tt
told items (Ok v) grid ids there fresh marks states index lo hi from e count asked same those size are is =
    subst (λ (i : Index). (s : Contents) → IsIndexOf s i → IsFresh s i → items v ≡ candidates (recorded_by s) i.grid lo hi from e) same
    (λ s of fresh_all.
    is
    ∙ ap (λ xs. map (slice_index xs) (filter (fresh_at marks) (between 0 (length xs)))) those
    ∙ candidates_found s grid ids fresh marks states lo hi from e of fresh_all (last_of asked (strips_between grid.width lo hi) are.asked_is are.small) are.order
    (λ k below.
    are.met k (omega (arith, below, size))
    ∙ (λ i. list_any (λ j. slice_meets grid from e j && strips_meet (are.asked_is i) (strips_at grid states k j)) (between 0 SLICES))))
