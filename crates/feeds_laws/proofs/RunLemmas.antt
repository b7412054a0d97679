-- Runs of ticks up to the last one may be told.
use Rattle.std.proofs.Common.{◌≡◌, ℕ, zero, suc, ◌+◌, ◌-◌, ◌<◌, ◌≤◌, ◌==◌, Bool, true, false, cond, List, [], ◌∷◌, length, refl, arith, inl, inr}
use Rattle.std.proofs.lemmas.Bool.{cases_Bool}
use Rattle.std.proofs.lemmas.Bool.Decides.{nat_tests}
use Rattle.std.specs.Prelude.{filter}
use Rattle.std.specs.List.{range_with_len}
use Rattle.meaning.specs.Answer.{has_ticks}
use Rattle.tick_set.specs.Runs.{runs_of, with_tick}
use Rattle.tick_set.specs.Ticks.{between, listed}
use Rattle.tick_set.specs.declared.spans.TheConstants.{LAST_TICK}
use Rattle.replica.specs.Ticks.{AreRuns}

weaker : (a b : ℕ) (runs : List (ℕ × ℕ)) → a ≤ b → AreRuns b runs → AreRuns a runs
weaker a b [] upto are = tt
weaker a b (run ∷ runs) upto are = (omega (arith, are.0), are.1, are.2, are.3)

joined : (b : Bool) (t lo hi : ℕ) (runs : List (ℕ × ℕ)) → (lo == t + 1) ≡ b → t ≤ LAST_TICK → AreRuns (t + 1) ((lo, hi) ∷ runs) →
    AreRuns t (cond b ((t, hi) ∷ runs) ((t, t) ∷ (lo, hi) ∷ runs))
joined true t lo hi runs is last are =
    let order : lo ≤ hi = are.1 in
    let next : lo ≡ t + 1 = grind (arith, nat_tests) in
    (omega arith, omega arith, are.2, are.3)
joined false t lo hi runs is last are =
    let least : t + 1 ≤ lo = are.0 in
    let apart : t + 2 ≤ lo = grind (arith, nat_tests) in
    (omega arith, omega arith, last, (apart, are.1, are.2, are.3))

with_tick_runs : (t : ℕ) (runs : List (ℕ × ℕ)) → t ≤ LAST_TICK → AreRuns (t + 1) runs → AreRuns t (with_tick t runs)
with_tick_runs t [] last are = (omega arith, omega arith, last, tt)
with_tick_runs t ((lo, hi) ∷ runs) last are = joined (lo == t + 1) t lo hi runs refl last are

ranged : (p : ℕ → Bool) (n a : ℕ) → a + n ≤ LAST_TICK + 1 → AreRuns a (runs_of (filter p (range_with_len a n)))
ranged p zero a last = tt
ranged p (suc n) a last =
    let later : AreRuns (a + 1) (runs_of (filter p (range_with_len (a + 1) n))) = ranged p n (a + 1) (omega (arith, last)) in
    elim (cases_Bool (p a)) [
      | inl passes ↦ rw passes (with_tick_runs a (runs_of (filter p (range_with_len (a + 1) n))) (omega (arith, last)) later)
      | inr other ↦ rw other (weaker a (a + 1) (runs_of (filter p (range_with_len (a + 1) n))) (omega arith) later)
    ]

pub listed_runs : (p : ℕ → Bool) (from e : ℕ) → e ≤ LAST_TICK → AreRuns 0 (runs_of (listed p from e))
unfolding listed between
listed_runs p from e last = by (e + 1 - from) refl
  where
    by : (n : ℕ) → e + 1 - from ≡ n → AreRuns 0 (runs_of (filter p (range_with_len from n)))
    by zero is = tt
    by (suc n) is = weaker 0 from (runs_of (filter p (range_with_len from (suc n)))) (omega arith) (ranged p (suc n) from (omega (arith, is, last)))

pub ticks_there : (runs : List (ℕ × ℕ)) → has_ticks runs ≡ true → 0 < length runs
ticks_there [] there = absurd (cc)
ticks_there (run ∷ runs) there = omega arith
