-- The places that are marked, slice by slice.
use Rattle.std.proofs.Common.{◌≡◌, ℕ, ◌+◌, ◌-◌, ◌<◌, ◌≤◌, Bool, false, ◌&&◌, ◌||◌, nat_le, List, [], replicate, take, ◌++◌, sym, ap, ◌∙◌, inl, inr, arith}
use Rattle.std.specs.List.{list_any}
use Rattle.std.proofs.lemmas.Bool.{cases_lt}
use Rattle.std.proofs.lemmas.List.{get_or-replicate, take_all}
use Rattle.tick_set.specs.Ticks.{between}
use Rattle.plane.specs.Boxes.{Grid, slice_first, slice_last, slice_meets, strips_meet}
use Rattle.plane.specs.declared.limits.TheConstants.{SLICES}
use Rattle.plane_index.specs.Index.{fresh_at}
use Rattle.plane_index.specs.States.{strips_at}
use Rattle.plane_index.specs.Lines.{strips_as}
use Rattle.plane_index.specs.declared.cover.Cover.{Cover}
use Rattle.plane_index.specs.declared.state.State.{State}
use Rattle.plane_index.proofs.FindLemmas.{any_same, any_up_to, met, no_more_met, not_yet_met}
use Rattle.exact.proofs.Naturals.{above_fails_nat_test, test_at_most}

-- the first and the last slice with a tick of the window
pub record AreEnds (g : Grid) (from e first last : ℕ) : Type 0 where
  pub begins : slice_first g first ≤ from
  pub begun : from ≤ slice_last g first
  pub ending : slice_first g last ≤ e
  pub ends : e ≤ slice_last g last
  pub inside : last < SLICES

same_slices : (g : Grid) (from e first last j : ℕ) → AreEnds g from e first last → j < last + 1 → nat_le first j ≡ slice_meets g from e j
same_slices g from e first last j are below =
    elim (cases_lt j first) [
      | inl before ↦ above_fails_nat_test first j before ∙ sym (not_yet_met g from e first j are.begins before)
      | inr after ↦ test_at_most first j (omega (arith, after)) ∙ sym (met g from e first last j are.begun are.ending (omega (arith, after)) (omega arith))
    ]

abbrev meets_there : Grid → ℕ → ℕ → Cover → List State → ℕ → ℕ → Bool
meets_there g from e asked states k s = slice_meets g from e s && strips_meet (strips_as asked) (strips_at g states k s)

up_to_last : (g : Grid) (from e first last more : ℕ) (asked : Cover) (states : List State) (k : ℕ) → AreEnds g from e first last →
    list_any (λ j. nat_le first j && strips_meet (strips_as asked) (strips_at g states k j)) (between 0 (last + 1))
    ≡ list_any (meets_there g from e asked states k) (between 0 (last + 1 + more))
up_to_last g from e first last more asked states k are =
    any_same (λ j. nat_le first j && strips_meet (strips_as asked) (strips_at g states k j)) (meets_there g from e asked states k) (last + 1)
    (λ j below. ap (λ b. b && strips_meet (strips_as asked) (strips_at g states k j)) (same_slices g from e first last j are below))
    ∙ sym (any_up_to (meets_there g from e asked states k) (last + 1) more
    (λ j above. ap (λ b. b && strips_meet (strips_as asked) (strips_at g states k j)) (no_more_met g from e last j are.ends above)))

pub all_marked : (g : Grid) (from e first last : ℕ) (asked : Cover) (states : List State) (old : Bool) (k : ℕ) → AreEnds g from e first last →
    old ≡ false →
    (old || list_any (λ j. nat_le first j && strips_meet (strips_as asked) (strips_at g states k j)) (between 0 (last + 1)))
    ≡ list_any (λ s. slice_meets g from e s && strips_meet (strips_as asked) (strips_at g states k s)) (between 0 SLICES)
all_marked g from e first last asked states old k are none =
    let inside = are.inside in
    ap (λ b. b || list_any (λ j. nat_le first j && strips_meet (strips_as asked) (strips_at g states k j)) (between 0 (last + 1))) none
    ∙ up_to_last g from e first last (SLICES - (last + 1)) asked states k are
    ∙ ap (λ m. list_any (meets_there g from e asked states k) (between 0 m)) (omega (arith, inside))

-- the first slice isn't past the last
pub in_order : (g : Grid) (from e first last : ℕ) → AreEnds g from e first last → from ≤ e → first ≤ last
in_order g from e first last are order =
    let begins = are.begins in let ends = are.ends in
    elim (cases_lt last first) [
      | inl before ↦ absurd (omega (arith, before, begins, ends, order))
      | inr after ↦ after
    ]

-- none is marked at first
pub none_marked : (items start : List Bool) (size count k : ℕ) → start ≡ [] → size ≡ 0 → items ≡ take count start ++ replicate (count - size) false → k < count →
    fresh_at items k ≡ false
none_marked items start size count k none zero is below =
    ap (λ xs. fresh_at xs k) is
    ∙ (λ i. fresh_at (take count (none i) ++ replicate (count - size) false) k)
    ∙ ap (λ xs. fresh_at (xs ++ replicate (count - size) false) k) (take_all count [] (omega arith))
    ∙ get_or-replicate (count - size) k false false (omega (arith, below, zero))
