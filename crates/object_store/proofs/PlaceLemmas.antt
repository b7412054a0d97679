-- Where the objects of a store are, by their patches.
use Rattle.std.proofs.Common.{◌≡◌, inl, inr, ℕ, zero, suc, ◌+◌, ◌-◌, ◌<◌, ◌≤◌, ℤ, ◌≤ℤ◌, Option, None, Some, List, [], ◌∷◌, ◌++◌, length, set, take, refl, sym, ap, subst, ◌∙◌, arith}
use Rattle.std.specs.Prelude.{All, slice_get, option_and_then, unwrap_or}
use Rattle.std.proofs.lemmas.Grind.{common_steps, get_or-set_at}
use Rattle.std.proofs.lemmas.List.{get_or-set_other, get_or_append_left, length-append, length-set, length-take-le, get_or-take}
use Rattle.std.proofs.lemmas.Option.{same_Some, none-some, slice_get_within}
use Rattle.tick_set.specs.declared.spans.TheConstants.{LAST_TICK}
use Rattle.motion.specs.declared.cell.Cell.{Cell}
use Rattle.motion.specs.declared.cell.Cell.TheVariants as cells
use Rattle.motion.specs.Dynamic.{Dynamic, value_at}
use Rattle.motion.specs.Range.{IsRange}
use Rattle.motion.specs.Timeline.{Epoch, epoch_at, AreBegunBy}
use Rattle.motion.proofs.CallerLemmas.{AreBegunBy-later}
use Rattle.places.specs.declared.horizons.Patches.{Patches}
use Rattle.places.specs.declared.horizons.Places.{Places}
use Rattle.places.specs.declared.patch.Extent.{Extent}
use Rattle.places.specs.declared.patch.Patch.{Patch}
use Rattle.places.specs.Boxes.{Horizon, patch_at}
use Rattle.places.specs.Places.{no_places, popped, pushed, replaced, with_patch, without_last}
use Rattle.places.specs.Patches.{empty_patch, unit}
use Rattle.places.proofs.CallerLemmas.{unit_rises}
use Rattle.object_store.specs.AtIndex.{at_index, restored_at}
use Rattle.object_store.specs.Contents.{StoredObject}
use Rattle.object_store.specs.Placing.{AreOthersPlaced, ArePlaced, ArePlacedBut, ArePlacedIn, EndInTime, HavePatches, IsPlaced, IsWithin, LiesInPatch}
use Rattle.exact.proofs.Naturals.{same_or_other}

-- ---- one object

pub within_range : (v : Dynamic) (lo hi : ℕ) (least greatest : ℤ) (e : Extent) → IsRange v lo hi least greatest → e.least ≡ unit least → e.greatest ≡ unit greatest
    → (t : ℕ) → lo ≤ t → t ≤ hi → IsWithin e t (Some (cells.Dyn v))
within_range v lo hi least greatest e range low high t from to = (
  subst (λ n. n ≤ℤ unit (value_at v t)) (sym low) (unit_rises least (value_at v t) (range.at_least t from to)),
  subst (λ n. unit (value_at v t) ≤ℤ n) (sym high) (unit_rises (value_at v t) greatest (range.at_most t from to)),
)

pub lies : (cells : Option (List Cell)) (patch : Patch) (t : ℕ) → IsWithin patch.x t (slice_get (unwrap_or cells []) 0) → IsWithin patch.y t (slice_get (unwrap_or cells []) 1) → LiesInPatch patch t cells
lies None patch t x y = tt
lies (Some cells) patch t x y = (x, y)

-- the last epoch is in force from where all have begun
pub placed_by_last : (from upto : ℕ) (patch : Patch) (epochs : List Epoch) (last : Epoch) → AreBegunBy epochs from → ((t : ℕ) → AreBegunBy epochs t → Some last ≡ epoch_at epochs t)
    → ((t : ℕ) → from ≤ t → t ≤ upto → LiesInPatch patch t last.cells) → IsPlaced from upto patch epochs
placed_by_last from upto patch epochs last begun in_force are t later to =
    subst (LiesInPatch patch t) (ap (option_and_then (λ (p : Epoch). p.cells)) (in_force t (AreBegunBy-later epochs from t later begun))) (are t later to)

-- ---- horizons

abbrev with_set : Horizon → ℕ → Patch → Horizon
with_set h index patch = record h { patches = set h.patches index patch }

pub placed_set : (index from : ℕ) (h : Horizon) (objects : List StoredObject) (patch : Patch) (at : StoredObject) → ArePlacedBut index from h objects → slice_get objects index ≡ Some at
    → IsPlaced from h.upto patch at.epochs → ArePlacedIn from (record h { patches = set h.patches index patch }) objects
placed_set index from h objects patch at are there new =
    let within : index < length h.patches = omega (arith, slice_get_within objects index at there, are.long) in
    record {
      tick = are.tick;
      long = length-set h.patches index patch ∙ are.long;
      each = λ k o is. elim (same_or_other k index) [
        | inl same ↦
            let equal : at ≡ o = same_Some at o (sym there ∙ subst (λ n. slice_get objects n ≡ Some o) same is) in
            subst (λ p. IsPlaced from h.upto p o.epochs) (sym (get_or-set_at h.patches index k patch empty_patch same within))
            (subst (λ (o : StoredObject). IsPlaced from h.upto patch o.epochs) equal new)
        | inr differs ↦ subst (λ p. IsPlaced from h.upto p o.epochs) (sym (get_or-set_other h.patches index k patch empty_patch differs)) (are.each k o differs is)
      ];
    }

-- one patch more is for the new ticks
pub placed_more : (from upto index : ℕ) (patches : List Patch) (objects : List StoredObject) (patch : Patch) (at : StoredObject) → length patches ≡ length objects → slice_get objects index ≡ Some at
    → IsPlaced from upto patch at.epochs → ((k : ℕ) (o : StoredObject) → k < index → slice_get objects k ≡ Some o → IsPlaced from upto (patch_at patches k) o.epochs)
    → (k : ℕ) (o : StoredObject) → k < index + 1 → slice_get objects k ≡ Some o → IsPlaced from upto (patch_at (set patches index patch) k) o.epochs
placed_more from upto index patches objects patch at long there new are k o below is = elim (same_or_other k index) [
  | inl same ↦
      let equal : at ≡ o = same_Some at o (sym there ∙ subst (λ n. slice_get objects n ≡ Some o) same is) in
      subst (λ p. IsPlaced from upto p o.epochs) (sym (get_or-set_at patches index k patch empty_patch same (omega (arith, slice_get_within objects index at there, long))))
      (subst (λ (o : StoredObject). IsPlaced from upto patch o.epochs) equal new)
  | inr differs ↦ subst (λ p. IsPlaced from upto p o.epochs) (sym (get_or-set_other patches index k patch empty_patch differs)) (are k o (omega (arith, below, differs)) is)
]

pub begun_later : (objects : List StoredObject) (s t : ℕ) → s ≤ t → All (λ (o : StoredObject). AreBegunBy o.epochs s) objects → All (λ (o : StoredObject). AreBegunBy o.epochs t) objects
begun_later objects s t later begun = λ k d l. AreBegunBy-later _ s t later (begun k d l)

pub others_later : (index s t : ℕ) (h : Horizon) (objects : List StoredObject) → s ≤ t → ArePlacedBut index s h objects → ArePlacedBut index t h objects
others_later index s t h objects later are =
    record { tick = are.tick; long = are.long; each = λ k o differs is u from to. are.each k o differs is u (omega (arith, later, from)) to }

pub placed_later : (s t : ℕ) (h : Horizon) (objects : List StoredObject) → s ≤ t → ArePlacedIn s h objects → ArePlacedIn t h objects
placed_later s t h objects later are =
    record { tick = are.tick; long = are.long; each = λ k o is u from to. are.each k o is u (omega (arith, later, from)) to }

-- ---- the last object

get-take : {X : Type 0} (n k : ℕ) (xs : List X) → k < n → slice_get (take n xs) k ≡ slice_get xs k
get-take zero k xs below = absurd (omega (arith, below))
get-take (suc n) k [] below = refl
get-take (suc n) zero (x ∷ xs) below = refl
get-take (suc n) (suc k) (x ∷ xs) below = get-take n k xs (omega (arith, below))

pub placed_pushed : (s from : ℕ) (h : Horizon) (objects : List StoredObject) (patch : Patch) (last : StoredObject) → s ≤ from → slice_get objects (length objects - 1) ≡ Some last
    → ArePlacedIn s h (take (length objects - 1) objects) → IsPlaced from h.upto patch last.epochs → ArePlacedIn from (with_patch h patch) objects
placed_pushed s from h objects patch last later there are new =
    let within : length objects - 1 < length objects = slice_get_within objects (length objects - 1) last there in
    let shorter : length (take (length objects - 1) objects) ≡ length objects - 1 = length-take-le (length objects - 1) objects (omega arith) in
    let long : length h.patches ≡ length objects - 1 = are.long ∙ shorter in
    let longer : length (h.patches ++ patch ∷ []) ≡ length h.patches + 1 = length-append h.patches (patch ∷ []) in
    record {
      tick = are.tick;
      long = omega (arith, long, longer, within);
      each = λ k o is. elim (same_or_other k (length objects - 1)) [
        | inl same ↦
            let equal : last ≡ o = same_Some last o (sym there ∙ subst (λ n. slice_get objects n ≡ Some o) same is) in
            subst (λ p. IsPlaced from h.upto p o.epochs) (sym (at_end h.patches patch k (same ∙ sym long)))
            (subst (λ (o : StoredObject). IsPlaced from h.upto patch o.epochs) equal new)
        | inr differs ↦
            let below : k < length objects - 1 = omega (arith, slice_get_within objects k o is, differs) in
            subst (λ p. IsPlaced from h.upto p o.epochs) (sym (get_or_append_left h.patches (patch ∷ []) empty_patch k (omega (arith, below, long))))
            (λ u after to. are.each k o (get-take (length objects - 1) k objects below ∙ is) u (omega (arith, later, after)) to)
      ];
    }
  where
    at_end : (xs : List Patch) (x : Patch) (n : ℕ) → n ≡ length xs → patch_at (xs ++ x ∷ []) n ≡ x
    at_end xs x n is = grind (arith, common_steps)

pub placed_popped : (from : ℕ) (h : Horizon) (objects : List StoredObject) → ArePlacedIn from h objects → ArePlacedIn from (without_last h) (take (length objects - 1) objects)
placed_popped from h objects are =
    let shorter : length (take (length objects - 1) objects) ≡ length objects - 1 = length-take-le (length objects - 1) objects (omega arith) in
    let short : length (take (length h.patches - 1) h.patches) ≡ length h.patches - 1 = length-take-le (length h.patches - 1) h.patches (omega arith) in
    record {
      tick = are.tick;
      long = omega (arith, shorter, short, are.long);
      each = λ k o is.
          let below : k < length objects - 1 = omega (arith, slice_get_within (take (length objects - 1) objects) k o is, shorter) in
          subst (λ p. IsPlaced from h.upto p o.epochs) (sym (get_or-take (length h.patches - 1) h.patches k empty_patch (omega (arith, below, are.long))))
          (are.each k o (sym (get-take (length objects - 1) k objects below) ∙ is));
    }

-- ---- one object with other epochs

length-at_index : (index : ℕ) (change : List Epoch → List Epoch) (objects : List StoredObject) → length (at_index index change objects) ≡ length objects
length-at_index index change [] = refl
length-at_index zero change (o ∷ os) = refl
length-at_index (suc index) change (o ∷ os) = ap suc (length-at_index index change os)

others-at_index : (index : ℕ) (change : List Epoch → List Epoch) (objects : List StoredObject) (k : ℕ) → (k ≡ index → ⊥) → slice_get (at_index index change objects) k ≡ slice_get objects k
others-at_index index change [] k differs = refl
others-at_index zero change (o ∷ os) zero differs = absurd (differs refl)
others-at_index zero change (o ∷ os) (suc k) differs = refl
others-at_index (suc index) change (o ∷ os) zero differs = refl
others-at_index (suc index) change (o ∷ os) (suc k) differs = others-at_index index change os k (λ same. differs (ap suc same))

pub others_before : (index from : ℕ) (replaced : Option Epoch) (h : Horizon) (objects : List StoredObject) → ArePlacedIn from h (restored_at index replaced objects) → ArePlacedBut index from h objects
others_before index from replaced h objects are = record {
  tick = are.tick;
  long = are.long ∙ length-at_index index _ objects;
  each = λ k o differs is. are.each k o (others-at_index index _ objects k differs ∙ is);
}

pub others_after : (index from : ℕ) (replaced : Option Epoch) (h : Horizon) (objects : List StoredObject) → ArePlacedIn from h objects → ArePlacedBut index from h (restored_at index replaced objects)
others_after index from replaced h objects are = record {
  tick = are.tick;
  long = are.long ∙ sym (length-at_index index _ objects);
  each = λ k o differs is. are.each k o (sym (others-at_index index _ objects k differs) ∙ is);
}

pub length-restored_at : (index : ℕ) (replaced : Option Epoch) (objects : List StoredObject) → length (restored_at index replaced objects) ≡ length objects
length-restored_at index replaced objects = length-at_index index _ objects

-- ---- all horizons

pub all_others_before : (index : ℕ) (replaced : Option Epoch) (p : Places) (objects : List StoredObject) → ArePlaced p (restored_at index replaced objects) → AreOthersPlaced index p objects
all_others_before index replaced p objects are = record {
  short = others_before index p.from replaced p.short objects are.short;
  middle = others_before index p.from replaced p.middle objects are.middle;
  long = others_before index p.from replaced p.long objects are.long;
  longest = others_before index p.from replaced p.longest objects are.longest;
}

pub all_others_after : (index : ℕ) (replaced : Option Epoch) (p : Places) (objects : List StoredObject) → ArePlaced p objects → AreOthersPlaced index p (restored_at index replaced objects)
all_others_after index replaced p objects are = record {
  short = others_after index p.from replaced p.short objects are.short;
  middle = others_after index p.from replaced p.middle objects are.middle;
  long = others_after index p.from replaced p.long objects are.long;
  longest = others_after index p.from replaced p.longest objects are.longest;
}

pub all_popped : (p : Places) (objects : List StoredObject) → ArePlaced p objects → ArePlaced (popped p) (take (length objects - 1) objects)
all_popped p objects are = record {
  short = placed_popped p.from p.short objects are.short;
  middle = placed_popped p.from p.middle objects are.middle;
  long = placed_popped p.from p.long objects are.long;
  longest = placed_popped p.from p.longest objects are.longest;
}

pub all_pushed : (from : ℕ) (p : Places) (objects : List StoredObject) (patches : Patches) (last : StoredObject) → p.from ≤ from → slice_get objects (length objects - 1) ≡ Some last
    → ArePlaced p (take (length objects - 1) objects) → HavePatches from p patches last.epochs → ArePlaced (record (pushed p patches) { from = from }) objects
all_pushed from p objects patches last later there are new = record {
  short = placed_pushed p.from from p.short objects patches.short last later there are.short new.short;
  middle = placed_pushed p.from from p.middle objects patches.middle last later there are.middle new.middle;
  long = placed_pushed p.from from p.long objects patches.long last later there are.long new.long;
  longest = placed_pushed p.from from p.longest objects patches.longest last later there are.longest new.longest;
}

pub all_set : (index from : ℕ) (p : Places) (objects : List StoredObject) (patches : Patches) (at : StoredObject) → p.from ≤ from → slice_get objects index ≡ Some at
    → AreOthersPlaced index p objects → HavePatches from p patches at.epochs → ArePlaced (record (replaced p index patches) { from = from }) objects
all_set index from p objects patches at later there are new = record {
  short = placed_set index from p.short objects patches.short at (others_later index p.from from p.short objects later are.short) there new.short;
  middle = placed_set index from p.middle objects patches.middle at (others_later index p.from from p.middle objects later are.middle) there new.middle;
  long = placed_set index from p.long objects patches.long at (others_later index p.from from p.long objects later are.long) there new.long;
  longest = placed_set index from p.longest objects patches.longest at (others_later index p.from from p.longest objects later are.longest) there new.longest;
}

pub others_end : (index : ℕ) (p : Places) (objects : List StoredObject) → AreOthersPlaced index p objects → EndInTime p
others_end index p objects are = record { short = are.short.tick; middle = are.middle.tick; long = are.long.tick; longest = are.longest.tick }

pub all_end : (p : Places) (objects : List StoredObject) → ArePlaced p objects → EndInTime p
all_end p objects are = record { short = are.short.tick; middle = are.middle.tick; long = are.long.tick; longest = are.longest.tick }

pub none_placed : (from upto : ℕ) → upto ≤ LAST_TICK → ArePlacedIn from (record { upto = upto; patches = [] }) []
none_placed from upto tick = record { tick = tick; long = refl; each = λ k o is. absurd (none-some o is) }

pub all_placed : (p : Places) (objects : List StoredObject) → p ≡ no_places → objects ≡ [] → ArePlaced p objects
all_placed p objects is none =
    subst (λ (q : Places). ArePlaced q objects) (sym is)
    (subst (ArePlaced no_places) (sym none)
    (record {
      short = none_placed 0 256 (omega arith);
      middle = none_placed 0 1024 (omega arith);
      long = none_placed 0 4096 (omega arith);
      longest = none_placed 0 65536 (omega arith);
    }))
