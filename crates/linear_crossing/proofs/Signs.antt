-- A rising function is negative, 0 and positive in three stretches of the window, and each comparison with 0 holds in some of them.
use Rattle.std.proofs.Common.{◌≡◌, ℕ, ◌+◌, ◌-◌, ◌<◌, ◌≤◌, not, ◌&&◌, ℤ, pos, ◌+ℤ◌, ◌-ℤ◌, ◌*ℤ◌, nat_le, int_le, subst, ap, ◌∙◌, arith}
use Rattle.std.proofs.lemmas.Bool.Decides.{nat_tests}
use Rattle.std.proofs.lemmas.Int.{ints}
use Rattle.case_table.specs.Comparison.{compares}
use Rattle.case_table.specs.declared.compare.Op.TheVariants.{Lt, Le, Eq, Ne, Ge, Gt}
use Rattle.tick_set.specs.Ticks.{within}
use Rattle.linear_crossing.specs.Zones.{line_at, is_stretch, solves, IsPairOf}
use Rattle.linear_crossing.specs.declared.linear.Pair.{Pair}
use Rattle.linear_crossing.proofs.Pairs.{pair_by}
use Rattle.tick_set.specs.declared.spans.Window.{Window}

-- from the number p on a function is not negative, of the numbers below n
abbrev pub TurnsAt : ℤ → ℤ → ℕ → ℕ → Type 0
TurnsAt a b n p = (k : ℕ) → k < n → int_le (pos 0) (a *ℤ pos k +ℤ b) ≡ nat_le p k

-- the same by the tick, where lo is the first tick and hi the last
abbrev TurnsAtTick : ℤ → ℕ → ℕ → ℕ → ℕ → Type 0
TurnsAtTick v lo hi p t = lo ≤ t → t ≤ hi → int_le (pos 0) v ≡ nat_le (lo + p) t

at_tick : (a b : ℤ) (lo hi n p t : ℕ) → lo + n ≡ hi + 1 → TurnsAt a b n p → TurnsAtTick (line_at a b lo t) lo hi p t
at_tick a b lo hi n p t e h l m =
    let since : pos t -ℤ pos lo ≡ pos (t - lo) = omega (arith, ints) in
    let shifted : nat_le p (t - lo) ≡ nat_le (lo + p) t = grind (arith, nat_tests) in
    ap (λ k. int_le (pos 0) (a *ℤ k +ℤ b)) since ∙ h (t - lo) (omega arith) ∙ shifted

at_tick_above : (a b : ℤ) (lo hi n q t : ℕ) → lo + n ≡ hi + 1 → TurnsAt a (b -ℤ pos 1) n q → TurnsAtTick (line_at a b lo t -ℤ pos 1) lo hi q t
at_tick_above a b lo hi n q t e h l m =
    let moved : line_at a b lo t -ℤ pos 1 ≡ line_at a (b -ℤ pos 1) lo t = omega (arith, ints) in
    ap (int_le (pos 0)) moved ∙ at_tick a (b -ℤ pos 1) lo hi n q t e h l m

less : (lo hi p t : ℕ) (v : ℤ) → lo + p ≤ hi + 1 → TurnsAtTick v lo hi p t
    → is_stretch lo 0 p t ≡ (within lo hi t && compares Lt v (pos 0))
less lo hi p t v b h = grind (arith, ints, nat_tests)

less_or_equal : (lo hi q t : ℕ) (v : ℤ) → lo + q ≤ hi + 1 → TurnsAtTick (v -ℤ pos 1) lo hi q t
    → is_stretch lo 0 q t ≡ (within lo hi t && compares Le v (pos 0))
less_or_equal lo hi q t v b h = grind (arith, ints, nat_tests)

equal : (lo hi p q t : ℕ) (v : ℤ) → lo + q ≤ hi + 1 → TurnsAtTick v lo hi p t → TurnsAtTick (v -ℤ pos 1) lo hi q t
    → is_stretch lo p q t ≡ (within lo hi t && compares Eq v (pos 0))
equal lo hi p q t v b g h = grind (arith, ints, nat_tests)

not_equal : (lo hi p q t : ℕ) (v : ℤ) → lo ≤ hi → lo + q ≤ hi + 1 → TurnsAtTick v lo hi p t → TurnsAtTick (v -ℤ pos 1) lo hi q t
    → (is_stretch lo 0 (hi + 1 - lo) t && not (is_stretch lo p q t)) ≡ (within lo hi t && compares Ne v (pos 0))
not_equal lo hi p q t v l b g h = grind (arith, ints, nat_tests)

greater_or_equal : (lo hi n p t : ℕ) (v : ℤ) → lo + n ≡ hi + 1 → TurnsAtTick v lo hi p t
    → is_stretch lo p n t ≡ (within lo hi t && compares Ge v (pos 0))
greater_or_equal lo hi n p t v b h = grind (arith, ints, nat_tests)

greater : (lo hi n q t : ℕ) (v : ℤ) → lo + n ≡ hi + 1 → TurnsAtTick (v -ℤ pos 1) lo hi q t
    → is_stretch lo q n t ≡ (within lo hi t && compares Gt v (pos 0))
greater lo hi n q t v b h = grind (arith, ints, nat_tests)

-- ---- the same as pairs of runs, for a function that is not negative from p on and above 0 from q on
pub turns_same : (a b b' : ℤ) (n p : ℕ) → b' ≡ b → TurnsAt a b' n p → TurnsAt a b n p
turns_same a b b' n p s h = let P : ℤ → Type 0 = λ c. TurnsAt a c n p in subst P s h

pub zone-Lt : (a b : ℤ) (w : Window) (n p : ℕ) (x : Pair) → w.lo + n ≡ w.hi + 1 → p ≤ n → TurnsAt a b n p
    → IsPairOf (is_stretch w.lo 0 p) x → IsPairOf (solves a b Lt w) x
zone-Lt a b w n p x e l g =
    pair_by (is_stretch w.lo 0 p) (solves a b Lt w) x (λ t. less w.lo w.hi p t (line_at a b w.lo t) (omega arith) (at_tick a b w.lo w.hi n p t e g))

pub zone-Le : (a b : ℤ) (w : Window) (n q : ℕ) (x : Pair) → w.lo + n ≡ w.hi + 1 → q ≤ n → TurnsAt a (b -ℤ pos 1) n q
    → IsPairOf (is_stretch w.lo 0 q) x → IsPairOf (solves a b Le w) x
zone-Le a b w n q x e l g =
    pair_by (is_stretch w.lo 0 q) (solves a b Le w) x (λ t. less_or_equal w.lo w.hi q t (line_at a b w.lo t) (omega arith) (at_tick_above a b w.lo w.hi n q t e g))

pub zone-Eq : (a b : ℤ) (w : Window) (n p q : ℕ) (x : Pair) → w.lo + n ≡ w.hi + 1 → q ≤ n → TurnsAt a b n p → TurnsAt a (b -ℤ pos 1) n q
    → IsPairOf (is_stretch w.lo p q) x → IsPairOf (solves a b Eq w) x
zone-Eq a b w n p q x e l g h =
    pair_by (is_stretch w.lo p q) (solves a b Eq w) x (λ t. equal w.lo w.hi p q t (line_at a b w.lo t) (omega arith) (at_tick a b w.lo w.hi n p t e g) (at_tick_above a b w.lo w.hi n q t e h))

pub zone-Ne : (a b : ℤ) (w : Window) (n p q : ℕ) (x : Pair) → w.lo + n ≡ w.hi + 1 → q ≤ n → TurnsAt a b n p → TurnsAt a (b -ℤ pos 1) n q
    → IsPairOf (λ t. is_stretch w.lo 0 (w.hi + 1 - w.lo) t && not (is_stretch w.lo p q t)) x → IsPairOf (solves a b Ne w) x
zone-Ne a b w n p q x e l g h =
    pair_by (λ t. is_stretch w.lo 0 (w.hi + 1 - w.lo) t && not (is_stretch w.lo p q t)) (solves a b Ne w) x (λ t. not_equal w.lo w.hi p q t (line_at a b w.lo t) w.ordered (omega arith) (at_tick a b w.lo w.hi n p t e g) (at_tick_above a b w.lo w.hi n q t e h))

pub zone-Ge : (a b : ℤ) (w : Window) (n p : ℕ) (x : Pair) → w.lo + n ≡ w.hi + 1 → TurnsAt a b n p
    → IsPairOf (is_stretch w.lo p n) x → IsPairOf (solves a b Ge w) x
zone-Ge a b w n p x e g =
    pair_by (is_stretch w.lo p n) (solves a b Ge w) x (λ t. greater_or_equal w.lo w.hi n p t (line_at a b w.lo t) e (at_tick a b w.lo w.hi n p t e g))

pub zone-Gt : (a b : ℤ) (w : Window) (n q : ℕ) (x : Pair) → w.lo + n ≡ w.hi + 1 → TurnsAt a (b -ℤ pos 1) n q
    → IsPairOf (is_stretch w.lo q n) x → IsPairOf (solves a b Gt w) x
zone-Gt a b w n q x e g =
    pair_by (is_stretch w.lo q n) (solves a b Gt w) x (λ t. greater w.lo w.hi n q t (line_at a b w.lo t) e (at_tick_above a b w.lo w.hi n q t e g))
