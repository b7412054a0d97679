-- Room for more objects, which are stale.
use Rattle.std.proofs.Common.{◌≡◌, ℕ, ◌-◌, ◌<◌, ◌≤◌, max, Bool, true, Result, Ok, Err, List, ◌++◌, length, take, drop, sym, ap, ◌∙◌, arith}
use Rattle.std.specs.Prelude.{OnErr}
use Rattle.std.proofs.lemmas.List.{length-drop, length-take, take-append-drop, take_all}
use Rattle.plane.specs.Boxes.{Grid}
use Rattle.plane.specs.declared.limits.TheConstants.{SLICES}
use Rattle.plane_index.specs.Held.{kept_strips}
use Rattle.plane_index.specs.Index.{AreIndexFields, Index, fresh_at, index_of, is_fresh, strips_of_place, AreAscendingIds}
use Rattle.plane_index.specs.States.{state_of_place, strips_at, strips_by_state}
use Rattle.plane_index.specs.declared.state.State.{State}
use Rattle.plane_index.proofs.IndexLemmas.{fresh_anywhere, fresh_of, same_index, seen_if_fresh, strips_of_index}

-- ---- more states

pub record AreLengthened (old new : List State) : Type 0 where
  pub more : length old ≤ length new
  pub kept : (k : ℕ) → k < length old → state_of_place new k ≡ state_of_place old k

strips_kept : (grid : Grid) (ids : List ℕ) (fresh : List Bool) (states states' : List State) → AreIndexFields ids fresh states → AreLengthened states states' →
    (k s : ℕ) → k < length ids → strips_at grid states' k s ≡ strips_at grid states k s
strips_kept grid ids fresh states states' are longer k s below =
    let room = are.room in
    let seen = are.seen in
    ap (λ (state : State). kept_strips (strips_by_state state grid s)) (longer.kept k (omega (arith, below, room, seen)))

-- all that a contract sees stays
pub unchanged : (grid : Grid) (ids ids' : List ℕ) (fresh fresh' : List Bool) (states states' : List State) (old : Index) → AreIndexFields ids fresh states →
    AreLengthened states states' → ids' ≡ ids → ((k : ℕ) → fresh_at fresh' k ≡ fresh_at fresh k) → index_of grid ids fresh states ≡ old →
    index_of grid ids' fresh' states' ≡ old
unchanged grid ids ids' fresh fresh' states states' old are longer same_ids same was =
    same_index grid ids ids' fresh fresh' states states' same_ids (λ k below. same k) (λ k s below is under. strips_kept grid ids fresh states states' are longer k s below) ∙ was

-- ---- more objects

pub on_err : {T E : Type 0} (r : Result T E) (P : Type 0) → P → OnErr r P
on_err (Ok v) P p = tt
on_err (Err e) P p = p

pub seen_fewer : (old : Index) (ids all : List ℕ) → ids ≡ old.ids → old.ids ≡ take (length old.ids) all → length ids ≤ length all
seen_fewer old ids all was first =
    let size = ap (λ (xs : List ℕ). length xs) was in
    let taken = ap (λ (xs : List ℕ). length xs) first ∙ length-take (length old.ids) all in
    omega (arith, size, taken)

pub seen_all : (old : Index) (ids all new : List ℕ) (n : ℕ) → ids ≡ old.ids → old.ids ≡ take (length old.ids) all → n ≡ length ids → new ≡ ids ++ take (length all - n) (drop n all) → new ≡ all
seen_all old ids all new n was first size is =
    let first_of : ids ≡ take (length ids) all = was ∙ first ∙ ap (λ (xs : List ℕ). take (length xs) all) (sym was) in
    let rest = length-drop n all in
    is
    ∙ ap (λ xs. ids ++ xs) (take_all (length all - n) (drop n all) (omega (arith, rest)))
    ∙ (λ i. first_of i ++ drop (size i) all)
    ∙ take-append-drop (length ids) all

pub fields_kept : (ids ids' : List ℕ) (fresh fresh' : List Bool) (states states' : List State) (count : ℕ) → AreIndexFields ids fresh states →
    AreLengthened states states' → count ≤ length states' →
    AreAscendingIds ids' → length ids ≤ length ids' → length ids' ≤ length fresh' → length fresh' ≡ max count (length fresh) → ((k : ℕ) → fresh_at fresh' k ≡ fresh_at fresh k) →
    AreIndexFields ids' fresh' states'
fields_kept ids ids' fresh fresh' states states' count are longer room ascending more few size same = record {
  ascending = ascending;
  seen = few;
  room =
      (let there = are.room in
      let longer_here = longer.more in
      omega (arith, size, room, there, longer_here));
  unseen = λ k past. same k ∙ are.unseen k (omega (arith, more, past));
}

pub fresh_kept : (grid : Grid) (ids ids' : List ℕ) (fresh fresh' : List Bool) (states states' : List State) (old : Index) → AreIndexFields ids fresh states →
    length ids ≤ length ids' → ((k : ℕ) → fresh_at fresh' k ≡ fresh_at fresh k) → index_of grid ids fresh states ≡ old →
    (k : ℕ) → is_fresh (index_of grid ids' fresh' states') k ≡ is_fresh old k
fresh_kept grid ids ids' fresh fresh' states states' old are more same was k =
    fresh_anywhere grid ids' fresh' states' (λ j past. same j ∙ are.unseen j (omega (arith, more, past))) k
    ∙ same k ∙ sym (fresh_anywhere grid ids fresh states are.unseen k) ∙ ap (λ (index : Index). is_fresh index k) was

pub strips_stay : (grid : Grid) (ids ids' : List ℕ) (fresh fresh' : List Bool) (states states' : List State) (old : Index) → AreIndexFields ids fresh states →
    AreLengthened states states' → length ids ≤ length ids' → ((k : ℕ) → fresh_at fresh' k ≡ fresh_at fresh k) → index_of grid ids fresh states ≡ old →
    (k slice : ℕ) → is_fresh old k ≡ true → slice < SLICES → strips_of_place (index_of grid ids' fresh' states') k slice ≡ strips_of_place old k slice
strips_stay grid ids ids' fresh fresh' states states' old are longer more same was k slice is under =
    let was_fresh = ap (λ (index : Index). is_fresh index k) was ∙ is in
    let below = seen_if_fresh grid ids fresh states k was_fresh in
    let here = sym (fresh_of grid ids fresh states k below) ∙ was_fresh in
    strips_of_index grid ids' fresh' states' k slice (omega (arith, below, more)) (same k ∙ here) under
    ∙ strips_kept grid ids fresh states states' are longer k slice below
    ∙ sym (strips_of_index grid ids fresh states k slice below here under)
    ∙ ap (λ (index : Index). strips_of_place index k slice) was
