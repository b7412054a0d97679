-- For this crate and for the crates above: how an attribute of one leg moves, and what the last epoch tells from its first tick on.
use Rattle.std.proofs.Common.{◌≡◌, ℕ, ℤ, pos, ◌+◌, ◌-◌, ◌*ℤ◌, ◌+ℤ◌, ◌≤◌, Some, List, [], length, ap, ◌∙◌, arith}
use Rattle.std.specs.Prelude.{slice_get}
use Rattle.std.proofs.lemmas.Int.{ints}
use Rattle.motion.specs.Dynamic.{Dynamic, value_at}
use Rattle.motion.specs.Function.{legs_rise}
use Rattle.motion.specs.Timeline.{Epoch, epoch_at, IsRising}
use Rattle.motion.proofs.TimelineLemmas.{begun_by_last, epoch_at-last}

climbed : (k : ℤ) (d w : ℕ) → k *ℤ pos (d + w) ≡ k *ℤ pos d +ℤ k *ℤ pos w
climbed k d w = omega (arith, ints)

pub climbed_on : (k : ℤ) (u from t : ℕ) → u ≤ from → from ≤ t → k *ℤ pos (t - u) ≡ k *ℤ pos (from - u) +ℤ k *ℤ pos (t - from)
climbed_on k u from t written later =
    let parts : t - u ≡ (from - u) + (t - from) = omega arith in
    ap (λ n. k *ℤ pos n) parts ∙ climbed k (from - u) (t - from)

-- the value by the one leg
by_leg : (v : Dynamic) (t : ℕ) → v.function.firsts ≡ [] → value_at v t ≡ v.value +ℤ v.function.last *ℤ pos (t - v.updatetime)
by_leg v t one = ap (λ legs. v.value +ℤ legs_rise legs v.function.last (t - v.updatetime)) one

pub value_on : (v : Dynamic) (from t : ℕ) → v.function.firsts ≡ [] → v.updatetime ≤ from → from ≤ t →
    value_at v t ≡ value_at v from +ℤ v.function.last *ℤ pos (t - from)
value_on v from t one written later =
    let here = by_leg v from one in
    let there = by_leg v t one in
    let on = climbed_on v.function.last v.updatetime from t written later in
    omega (arith, ints, here, there, on)

-- the last epoch is in force from its first tick on
pub in_force_from : (epochs : List Epoch) (last : Epoch) (t : ℕ) → IsRising epochs → slice_get epochs (length epochs - 1) ≡ Some last → last.from ≤ t
    → epoch_at epochs t ≡ Some last
in_force_from epochs last t rising is later = epoch_at-last epochs t (begun_by_last epochs t last rising is later) ∙ is
