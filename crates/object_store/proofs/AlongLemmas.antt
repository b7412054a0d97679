-- Where an object is that moves along one line.
use Rattle.std.proofs.Common.{◌≡◌, ◌⊎◌, inl, inr, ℕ, ℤ, pos, negsuc, ◌-◌, ◌≤◌, ◌+ℤ◌, ◌*ℤ◌, ◌≤ℤ◌, List, sym, ap, subst, arith}
use Rattle.std.specs.Int.{int_max, int_min}
use Rattle.std.specs.Prelude.{option_and_then, slice_get}
use Rattle.std.proofs.lemmas.Int.{ints, clamps}
use Rattle.motion.specs.declared.straight.Straight.{Straight}
use Rattle.motion.specs.Straight.{IsStraightOf, MovesFrom}
use Rattle.motion.specs.Timeline.{Epoch, cells_of, state_at, AreBegunBy}
use Rattle.motion.proofs.CallerLemmas.{last_begun}
use Rattle.motion.proofs.StraightLemmas.{climbed_on}
use Rattle.places.specs.declared.patch.Patch.{Patch}
use Rattle.places.specs.Patches.{joined, joined_extent, unit, unit_of}
use Rattle.places.proofs.CallerLemmas.{unit_rises}
use Rattle.object_store.specs.Placing.{BeginsInReach, IsPlaced, IsWithin, LiesInPatch, spot_at}
use Rattle.object_store.proofs.PlaceLemmas.{lies}

-- a number is between two others, whichever is the lesser
abbrev IsBetween : (a b n : ℤ) → Type 0
IsBetween a b n = ((a ≤ℤ n) × (n ≤ℤ b)) ⊎ ((b ≤ℤ n) × (n ≤ℤ a))

lesser_and_greater : (a b n : ℤ) → IsBetween a b n → (int_min a b ≤ℤ n) × (n ≤ℤ int_max a b)
lesser_and_greater a b n (inl up) = (omega (arith, ints, clamps, up.0, up.1), omega (arith, ints, clamps, up.0, up.1))
lesser_and_greater a b n (inr down) = (omega (arith, ints, clamps, down.0, down.1), omega (arith, ints, clamps, down.0, down.1))

units_between : (a b n : ℤ) → IsBetween a b n → IsBetween (unit a) (unit b) (unit n)
units_between a b n (inl up) = inl (unit_rises a n up.0, unit_rises n b up.1)
units_between a b n (inr down) = inr (unit_rises b n down.0, unit_rises n a down.1)

-- a slope goes one way
one_way : (slope : ℤ) → ((d : ℕ) → pos 0 ≤ℤ (slope *ℤ pos d)) ⊎ ((d : ℕ) → (slope *ℤ pos d) ≤ℤ pos 0)
one_way (pos n) = inl (λ d. omega (arith, ints))
one_way (negsuc n) = inr (λ d. omega (arith, ints))

abbrev value_on : (start slope : ℤ) (begin t : ℕ) → ℤ
value_on start slope begin t = start +ℤ slope *ℤ pos (t - begin)

-- at a tick between two others the value is between theirs
between : (start slope : ℤ) (begin from last t : ℕ) → begin ≤ from → from ≤ t → t ≤ last
    → IsBetween (value_on start slope begin from) (value_on start slope begin last) (value_on start slope begin t)
between start slope begin from last t begun later to =
    let first = climbed_on slope begin from t begun later in
    let second = climbed_on slope begin t last (omega arith) to in
    elim (one_way slope) [
      | inl up ↦ inl (omega (arith, ints, first, up (t - from)), omega (arith, ints, second, up (last - t)))
      | inr down ↦ inr (omega (arith, ints, second, down (last - t)), omega (arith, ints, first, down (t - from)))
    ]

within_way : (p : Epoch) (index begin : ℕ) (start slope : ℤ) (from last t : ℕ) → MovesFrom p index begin start slope → begin ≤ from → from ≤ t → t ≤ last
    → IsWithin (joined_extent (unit_of (value_on start slope begin from)) (unit_of (value_on start slope begin last))) t (slice_get (cells_of p) index)
within_way p index begin start slope from last t moves begun later to =
    let e = joined_extent (unit_of (value_on start slope begin from)) (unit_of (value_on start slope begin last)) in
    subst (IsWithin e t) (sym moves.cell)
    (subst (λ n. (e.least ≤ℤ unit n) × (unit n ≤ℤ e.greatest)) (sym (moves.value t (omega arith)))
    (lesser_and_greater _ _ _ (units_between _ _ _ (between start slope begin from last t begun later to))))

-- the patch of the places at two ticks tells of those between
pub placed_along : (line : Straight) (epochs : List Epoch) (from upto last : ℕ) (patch : Patch) → line.from ≤ from → upto ≤ last
    → patch ≡ joined (spot_at line from) (spot_at line last) → IsStraightOf epochs line → IsPlaced from upto patch epochs
placed_along line epochs from upto last patch begun ends is told t later to =
    let way = joined (spot_at line from) (spot_at line last) in
    let state = ap (option_and_then (λ (p : Epoch). p.cells)) (told.in_force t (omega arith)) in
    subst (λ p. LiesInPatch p t (state_at epochs t)) (sym is)
    (subst (LiesInPatch way t) (sym state)
    (lies told.epoch.cells way t
    (within_way told.epoch 0 line.from line.x line.dx from last t told.x begun later (omega arith))
    (within_way told.epoch 1 line.from line.y line.dy from last t told.y begun later (omega arith))))

-- the line of the last epoch has begun where each epoch has
pub line_begun : (epochs : List Epoch) (line : Straight) (from : ℕ) → IsStraightOf epochs line → AreBegunBy epochs from → line.from ≤ from
line_begun epochs line from told begun = omega (arith, last_begun epochs from told.epoch told.last begun, told.begins)

pub line_reached : (epochs : List Epoch) (line : Straight) → IsStraightOf epochs line → BeginsInReach line
line_reached epochs line told = record { x = told.x.near; y = told.y.near }
