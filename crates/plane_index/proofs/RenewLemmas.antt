-- An index of which no object is stale.
use Rattle.std.proofs.Common.{◌≡◌, ℕ, ◌<◌, ◌≤◌, Bool, true, false, ◌||◌, not, nat_lt, List, ◌++◌, length, take, drop, sym, ap, subst, ◌∙◌, inl, inr, arith}
use Rattle.std.specs.Prelude.{All, count_by, slice_index}
use Rattle.std.proofs.lemmas.Bool.{cases_Bool}
use Rattle.std.proofs.lemmas.Bool.Decides.{nat_tests}
use Rattle.std.proofs.lemmas.List.{get_or-take, take_all}
use Rattle.tick_set.specs.Ticks.{between}
use Rattle.history.specs.Catalog.{ids_of}
use Rattle.object_store.specs.Contents.{Contents, catalog_of}
use Rattle.plane.specs.Boxes.{Grid, strips_in}
use Rattle.plane.specs.declared.limits.TheConstants.{SLICES}
use Rattle.plane_index.specs.Held.{kept_strips}
use Rattle.plane_index.specs.Index.{AreIndexFields, Index, fresh_at, index_of, is_fresh, stale_count, strips_of_place, IsFresh, IsIndexOf}
use Rattle.plane_index.specs.States.{strips_at}
use Rattle.plane_index.specs.Told.{recorded_by}
use Rattle.plane_index.specs.declared.state.State.{State}
use Rattle.plane_index.proofs.BackLemmas.{written_back}
use Rattle.plane_index.proofs.IndexLemmas.{fresh_anywhere, fresh_of, seen_if_fresh, strips_of_index}
use Rattle.plane_index.proofs.NumberLemmas.{ids_stored}

-- ---- it has seen more objects

pub seen_more : (s : Contents) (grid : Grid) (ids : List ℕ) (fresh : List Bool) (states : List State) (old new : Index) → index_of grid ids fresh states ≡ old →
    IsIndexOf s old → new.grid ≡ old.grid → new.ids ≡ ids_of (catalog_of s) old.grid.class → ((k : ℕ) → is_fresh new k ≡ is_fresh old k) →
    ((k slice : ℕ) → is_fresh old k ≡ true → slice < SLICES → strips_of_place new k slice ≡ strips_of_place old k slice) → IsIndexOf s new
seen_more s grid ids fresh states old new was of same_grid all same_fresh same_strips =
    let now : new.ids ≡ ids_of (catalog_of s) new.grid.class = all ∙ ap (λ (g : Grid). ids_of (catalog_of s) g.class) (sym same_grid) in
    let size : length new.ids ≡ length (ids_of (catalog_of s) new.grid.class) = ap (λ (xs : List ℕ). length xs) now in
    record {
      seen = now ∙ sym (take_all (length new.ids) (ids_of (catalog_of s) new.grid.class) (omega (arith, size)));
      right = λ k slice is under.
          let is_old = sym (same_fresh k) ∙ is in
          let below_ids = seen_if_fresh grid ids fresh states k (ap (λ (index : Index). is_fresh index k) was ∙ is_old) in
          let same_size = ap (λ (index : Index). length index.ids) was in
          let below : k < length old.ids = omega (arith, below_ids, same_size) in
          let id : slice_index old.ids k ≡ slice_index new.ids k =
          ap (λ (xs : List ℕ). slice_index xs k) of.seen
          ∙ get_or-take (length old.ids) (ids_of (catalog_of s) old.grid.class) k 0 below
          ∙ ap (λ (xs : List ℕ). slice_index xs k) (sym all) in
          same_strips k slice is_old under
          ∙ of.right k slice is_old under
          ∙ (λ i. kept_strips (strips_in (recorded_by s) (sym same_grid i) (id i) slice));
    }

-- ---- who was stale was looked at

pub record IsFreshened (s : Contents) (grid : Grid) (ids : List ℕ) (fresh fresh' : List Bool) (states states' : List State) : Type 0 where
  pub places : length fresh' ≡ length fresh
  pub room : length states' ≡ length states
  pub is_fresh_now : (k : ℕ) → fresh_at fresh' k ≡ (fresh_at fresh k || nat_lt k (length ids))
  pub kept : (k slice : ℕ) → fresh_at fresh k ≡ true → strips_at grid states' k slice ≡ strips_at grid states k slice
  pub right : (k slice : ℕ) → k < length ids → fresh_at fresh k ≡ false → slice < SLICES
      → strips_at grid states' k slice ≡ kept_strips (strips_in (recorded_by s) grid (slice_index ids k) slice)

-- of what is written back
pub of_lent : (s : Contents) (grid grid' : Grid) (there ids : List ℕ) (lent fresh fresh' : List Bool) (states states' : List State) (n : ℕ) →
    there ≡ ids → lent ≡ fresh → length lent ≡ n → grid' ≡ grid →
    length fresh' ≡ length lent → length states' ≡ length states → ((k : ℕ) → fresh_at fresh' k ≡ (fresh_at lent k || nat_lt k (length there))) →
    ((k slice : ℕ) → fresh_at lent k ≡ true → strips_at grid' states' k slice ≡ strips_at grid states k slice) →
    ((k slice : ℕ) → k < length there → fresh_at lent k ≡ false → slice < SLICES
    → strips_at grid' states' k slice ≡ kept_strips (strips_in (recorded_by s) grid (slice_index there k) slice)) →
    IsFreshened s grid ids fresh (take n (fresh' ++ drop (length fresh') fresh)) states states'
of_lent s grid grid' there ids lent fresh fresh' states states' n same was size same_grid places room is_fresh_now kept right =
    let full = ap (λ (xs : List Bool). length xs) (sym was) ∙ size in
    let new = written_back fresh' fresh n (places ∙ size) full in
    let done : IsFreshened s grid there lent fresh' states states' = record {
      places = places;
      room = room;
      is_fresh_now = is_fresh_now;
      kept = λ k slice is. ap (λ (g : Grid). strips_at g states' k slice) (sym same_grid) ∙ kept k slice is;
      right = λ k slice below is under. ap (λ (g : Grid). strips_at g states' k slice) (sym same_grid) ∙ right k slice below is under;
    } in
    subst (λ (xs : List Bool). IsFreshened s grid ids fresh xs states states') (sym new)
    (subst (λ (xs : List Bool). IsFreshened s grid ids xs fresh' states states') was
    (subst (λ (xs : List ℕ). IsFreshened s grid xs lent fresh' states states') same done))

past_none : (b : Bool) (k n : ℕ) → b ≡ false → n ≤ k → (b || nat_lt k n) ≡ false
past_none b k n is past = grind (arith, nat_tests, is)

within_all : (b : Bool) (k n : ℕ) → k < n → (b || nat_lt k n) ≡ true
within_all b k n below = grind (arith, nat_tests)

pub fields_renewed : (s : Contents) (grid : Grid) (ids : List ℕ) (fresh fresh' : List Bool) (states states' : List State) → AreIndexFields ids fresh states →
    IsFreshened s grid ids fresh fresh' states states' → AreIndexFields ids fresh' states'
fields_renewed s grid ids fresh fresh' states states' are done =
    let seen = are.seen in
    let places = done.places in
    let held = are.room in
    let many = done.room in
    record {
      ascending = are.ascending;
      seen = omega (arith, seen, places);
      room = omega (arith, places, held, many);
      unseen = λ k past. done.is_fresh_now k ∙ past_none (fresh_at fresh k) k (length ids) (are.unseen k past) past;
    }

pub all_fresh : (s : Contents) (grid : Grid) (ids : List ℕ) (fresh fresh' : List Bool) (states states' : List State) →
    ids ≡ ids_of (catalog_of s) grid.class → IsFreshened s grid ids fresh fresh' states states' → IsFresh s (index_of grid ids fresh' states')
all_fresh s grid ids fresh fresh' states states' all done = record {
  all = all;
  fresh = λ k below. fresh_of grid ids fresh' states' k below ∙ done.is_fresh_now k ∙ within_all (fresh_at fresh k) k (length ids) below;
}

pub all_right : (s : Contents) (grid : Grid) (ids : List ℕ) (fresh fresh' : List Bool) (states states' : List State) →
    IsIndexOf s (index_of grid ids fresh states) → IsFreshened s grid ids fresh fresh' states states' → IsIndexOf s (index_of grid ids fresh' states')
all_right s grid ids fresh fresh' states states' of done = record {
  seen = of.seen;
  right = λ k slice is under.
      let below = seen_if_fresh grid ids fresh' states' k is in
      let now = sym (fresh_of grid ids fresh' states' k below) ∙ is in
      strips_of_index grid ids fresh' states' k slice below now under
      ∙ elim (cases_Bool (fresh_at fresh k)) [
        | inl before ↦
            done.kept k slice before
            ∙ sym (strips_of_index grid ids fresh states k slice below before under)
            ∙ of.right k slice (fresh_of grid ids fresh states k below ∙ before) under
        | inr stale ↦ done.right k slice below stale under
      ];
}

-- the objects that are looked at are those that were stale
pub looked_at : (s : Contents) (grid : Grid) (ids : List ℕ) (fresh : List Bool) (states : List State) (old new : Index) → AreIndexFields ids fresh states →
    index_of grid ids fresh states ≡ new → ids ≡ ids_of (catalog_of s) old.grid.class → ((k : ℕ) → is_fresh new k ≡ is_fresh old k) →
    count_by (λ k. not (fresh_at fresh k)) (between 0 (length ids)) ≡ stale_count s old
looked_at s grid ids fresh states old new are is all same =
    let told : (k : ℕ) → fresh_at fresh k ≡ is_fresh old k =
    λ k. sym (fresh_anywhere grid ids fresh states are.unseen k) ∙ ap (λ (index : Index). is_fresh index k) is ∙ same k in
    λ i. count_by (λ k. not (told k i)) (between 0 (length (all i)))

pub are_stored : (s : Contents) (class : ℕ) (ids there : List ℕ) → there ≡ ids → ids ≡ ids_of (catalog_of s) class → All (λ id. id < length s.objects) there
are_stored s class ids there is all = subst (All (λ id. id < length s.objects)) (sym (is ∙ all)) (ids_stored s class)
