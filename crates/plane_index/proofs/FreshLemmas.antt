-- One more place is fresh.
use Rattle.std.proofs.Common.{◌≡◌, ℕ, ◌+◌, ◌<◌, ◌≤◌, Bool, true, false, ◌||◌, not, cond, nat_lt, ⊎_elim, refl, arith}
use Rattle.std.specs.Prelude.{◌==◌, if◌then◌else◌}
use Rattle.std.proofs.lemmas.Bool.{cases_lt}
use Rattle.std.proofs.lemmas.Bool.Decides.{nat_tests}

pub own : (b : Bool) (place : ℕ) → (b || nat_lt place place) ≡ b
own b place = grind (arith, nat_tests)

abbrev reads_of : Bool → ℕ
reads_of x = if x then 0 else 1

pub one_read : (x y : Bool) → x ≡ y → reads_of x ≡ cond (not y) 1 0
one_read true true same = refl
one_read false false same = refl
one_read true false same = absurd (grind (arith, nat_tests, same))
one_read false true same = absurd (grind (arith, nat_tests, same))

pub apart_of : (k place : ℕ) → (k == place) ≡ false → k < place + 1 → k < place
apart_of k place apart below = grind (arith, nat_tests)

-- ---- places that are left out, which are fresh already

within_both : (b now : Bool) (k from to : ℕ) → now ≡ (b || nat_lt k from) → k < from → from ≤ to → now ≡ (b || nat_lt k to)
within_both b now k from to is below order = grind (arith, nat_tests, is)

past_both : (b now : Bool) (k from to : ℕ) → now ≡ (b || nat_lt k from) → from ≤ to → to ≤ k → now ≡ (b || nat_lt k to)
past_both b now k from to is order past = grind (arith, nat_tests, is)

left_out : (b now : Bool) (k from to : ℕ) → now ≡ (b || nat_lt k from) → from ≤ k → k < to → now ≡ true → now ≡ (b || nat_lt k to)
left_out b now k from to is past below fresh = grind (arith, nat_tests, is, fresh)

pub still_fresh : (b now : Bool) (k from to : ℕ) → now ≡ (b || nat_lt k from) → from ≤ to → (from ≤ k → k < to → now ≡ true) → now ≡ (b || nat_lt k to)
still_fresh b now k from to is order fresh =
    ⊎_elim
    (λ (l : k < from). within_both b now k from to is l order)
    (λ (l : from ≤ k).
    ⊎_elim (λ (m : k < to). left_out b now k from to is l m (fresh l m)) (λ (m : to ≤ k). past_both b now k from to is order m) (cases_lt k to))
    (cases_lt k from)

-- who was stale isn't left out
pub was_fresh : (b now : Bool) (k from : ℕ) → now ≡ (b || nat_lt k from) → from ≤ k → now ≡ true → b ≡ true
was_fresh b now k from is past fresh = grind (arith, nat_tests, is, fresh)

pub none_yet_seen : (b : Bool) (k : ℕ) → b ≡ (b || nat_lt k 0)
none_yet_seen b k = grind (arith, nat_tests)
