-- The ticks of runs are those of the list that they were made of.
use Rattle.std.proofs.Common.{◌≡◌, ◌∙◌, ℕ, ◌+◌, ◌≤◌, ◌==◌, max, Bool, true, false, ◌||◌, List, [], ◌∷◌, cond, refl, ap, sym, arith}
use Rattle.std.proofs.lemmas.Bool.Decides.{nat_tests}
use Rattle.tick_set.specs.declared.operation.SetOperation.{SetOperation}
use Rattle.tick_set.specs.Runs.{runs_of, with_tick}
use Rattle.tick_set.specs.SetOperation.{kept}
use Rattle.tick_set.specs.TickList.{has}
use Rattle.tick_set.specs.Ticks.{listed, within}
use Rattle.tick_set.proofs.CallerLemmas.{has_listed}
use Rattle.replica.specs.Ticks.{combined, have, last_of}
use Rattle.replica.proofs.TickLemmas.{kept_within, within_last}

-- each first tick is at most its last
Ordered : List (ℕ × ℕ) → Type 0
Ordered [] = Unit {0}
Ordered (s ∷ spans) = (s.0 ≤ s.1) × Ordered spans

ordered_joined : (b : Bool) (t lo hi : ℕ) (spans : List (ℕ × ℕ)) → (lo == t + 1) ≡ b → lo ≤ hi → Ordered spans → Ordered (cond b ((t, hi) ∷ spans) ((t, t) ∷ (lo, hi) ∷ spans))
unfolding Ordered
ordered_joined true t lo hi spans e fits rest = (grind (arith, nat_tests), rest)
ordered_joined false t lo hi spans e fits rest = (omega arith, (fits, rest))

ordered_with : (t : ℕ) (spans : List (ℕ × ℕ)) → Ordered spans → Ordered (with_tick t spans)
unfolding Ordered
ordered_with t [] h = (omega arith, tt)
ordered_with t ((lo, hi) ∷ spans) h = ordered_joined (lo == t + 1) t lo hi spans refl h.0 h.1

ordered_runs : (ticks : List ℕ) → Ordered (runs_of ticks)
unfolding Ordered
ordered_runs [] = tt
ordered_runs (t ∷ ticks) = ordered_with t (runs_of ticks) (ordered_runs ticks)

have_joined : (b : Bool) (t lo hi u : ℕ) (spans : List (ℕ × ℕ)) → (lo == t + 1) ≡ b → lo ≤ hi
    → have (cond b ((t, hi) ∷ spans) ((t, t) ∷ (lo, hi) ∷ spans)) u ≡ ((t == u) || (within lo hi u || have spans u))
have_joined true t lo hi u spans e fits = grind (arith, nat_tests)
have_joined false t lo hi u spans e fits = grind (arith, nat_tests)

have_with : (t u : ℕ) (spans : List (ℕ × ℕ)) → Ordered spans → have (with_tick t spans) u ≡ ((t == u) || have spans u)
unfolding Ordered
have_with t u [] h = grind (arith, nat_tests)
have_with t u ((lo, hi) ∷ spans) h = have_joined (lo == t + 1) t lo hi u spans refl h.0

pub have_runs : (ticks : List ℕ) (u : ℕ) → have (runs_of ticks) u ≡ has ticks u
have_runs [] u = refl
have_runs (t ∷ ticks) u = have_with t u (runs_of ticks) (ordered_runs ticks) ∙ ap (λ b. (t == u) || b) (have_runs ticks u)

pub have_combined : (operation : SetOperation) (old told : List (ℕ × ℕ)) (t : ℕ) → have (combined operation old told) t ≡ kept operation (have old t) (have told t)
have_combined operation old told t =
    let most = max (last_of old) (last_of told) in
    have_runs (listed (λ u. kept operation (have old u) (have told u)) 0 most) t
    ∙ has_listed (λ u. kept operation (have old u) (have told u)) 0 most t
    ∙ sym (kept_within operation (have old t) (have told t) (within 0 most t) (within_last old most t (omega arith)) (within_last told most t (omega arith)))
