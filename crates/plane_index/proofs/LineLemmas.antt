-- Values that move along lines.
use Rattle.std.proofs.Common.{◌≡◌, ℕ, suc, ◌+◌, ◌-◌, ◌*◌, ◌<◌, ◌≤◌, ⊎_elim, ℤ, pos, ◌+ℤ◌, ◌-ℤ◌, ◌*ℤ◌, ◌<ℤ◌, ◌≤ℤ◌, neg_ℤ, int_le, unsigned_abs, nat_le, nat_lt, Bool, true, false, ◌&&◌, subst, sym, ap, ◌∙◌, inl, inr, arith}
use Rattle.std.specs.Int.{div_ceil}
use Rattle.std.proofs.Math.Nat.{mul-le-mul_left}
use Rattle.std.proofs.lemmas.Bool.{cases_Bool, cases_lt}
use Rattle.std.proofs.lemmas.Bool.Decides.{nat_tests}
use Rattle.std.proofs.lemmas.Grind.{div_ceil_times}
use Rattle.std.proofs.lemmas.Int.{ints}
use Rattle.exact.proofs.Ring.{number, opposite, part, product, same, sum}
use Rattle.tick_set.specs.Ticks.{within}
use Rattle.plane.specs.Rows.{is_between}

-- ---- the first tick at which a product reaches a bound

reached : (s r f k : ℕ) → s ≤ f * r → f * r < s + r → nat_le s (r * k) ≡ nat_le f k
reached s r f k below above =
    ⊎_elim
    (λ (l : k < f). let far : r * suc k ≤ r * f = mul-le-mul_left r l in grind (arith, nat_tests))
    (λ (l : f ≤ k). let near : r * f ≤ r * k = mul-le-mul_left r l in grind (arith, nat_tests))
    (cases_lt k f)

above_bound : (bound : ℤ) (s n : ℕ) → pos 0 <ℤ bound → s ≡ unsigned_abs bound → int_le bound (pos n) ≡ nat_le s n
above_bound bound s n some is = grind (arith, ints, nat_tests)

-- a quotient that is rounded up
pub rounded_up : (r s f k : ℕ) (bound : ℤ) → 0 < r → pos 0 <ℤ bound → s ≡ unsigned_abs bound → f ≡ div_ceil s r → int_le bound (pos (r * k)) ≡ nat_le f k
rounded_up r s f k bound rises some is e =
    let P : ℕ → Type 0 = λ g. (s ≤ g * r) × (g * r < s + r) in
    let b = subst P (sym e) (div_ceil_times s r rises) in
    above_bound bound s (r * k) some is ∙ reached s r f k b.0 b.1

-- a product that doesn't reach the bound at the last tick doesn't reach it before
pub never_reached : (r s last k : ℕ) (bound : ℤ) → pos 0 <ℤ bound → s ≡ unsigned_abs bound → r * last < s → k ≤ last → int_le bound (pos (r * k)) ≡ nat_le (last + 1) k
never_reached r s last k bound some is low up_to =
    let near : r * k ≤ r * last = mul-le-mul_left r up_to in
    above_bound bound s (r * k) some is ∙ grind (arith, nat_tests, near, low, up_to)

pub reached_at_once : (n k : ℕ) (bound : ℤ) → int_le bound (pos 0) ≡ true → int_le bound (pos n) ≡ nat_le 0 k
reached_at_once n k bound none = grind (arith, ints, nat_tests, none)

-- ---- the ticks between two bounds

outside_both : (lo hi first end t : ℕ) (b : Bool) → lo + end ≤ hi + 1 → within lo hi t ≡ false → (nat_le (lo + first) t && nat_lt t (lo + end)) ≡ (within lo hi t && b)
outside_both lo hi first end t b ends out = grind (arith, nat_tests, out)

inside_both : (lo hi first end t : ℕ) (low high v : ℤ) → within lo hi t ≡ true → int_le low v ≡ nat_le first (t - lo) → int_le (high +ℤ pos 1) v ≡ nat_le end (t - lo) →
    (nat_le (lo + first) t && nat_lt t (lo + end)) ≡ (within lo hi t && is_between low high v)
inside_both lo hi first end t low high v is above below = grind (arith, ints, nat_tests, is, above, below)

pub in_stretch : (lo hi first end t : ℕ) (low high least past v : ℤ) → lo ≤ hi → end ≤ hi - lo + 1 → least ≡ low → past ≡ high +ℤ pos 1 →
    (t - lo ≤ hi - lo → int_le least v ≡ nat_le first (t - lo)) → (t - lo ≤ hi - lo → int_le past v ≡ nat_le end (t - lo)) →
    (nat_le (lo + first) t && nat_lt t (lo + end)) ≡ (within lo hi t && is_between low high v)
in_stretch lo hi first end t low high least past v order ends is is' above below =
    elim (cases_Bool (within lo hi t)) [
      | inl inside ↦
          let up_to : t - lo ≤ hi - lo = grind (arith, nat_tests, inside) in
          inside_both lo hi first end t low high v inside (ap (λ z. int_le z v) (sym is) ∙ above up_to) (ap (λ z. int_le z v) (sym is') ∙ below up_to)
      | inr out ↦ outside_both lo hi first end t (is_between low high v) (omega (arith, order, ends)) out
    ]

-- ---- a line and what it has risen

moved_up : (lo hi start low high v : ℤ) → low ≡ lo -ℤ start → high ≡ hi -ℤ start → is_between low high v ≡ is_between lo hi (start +ℤ v)
moved_up lo hi start low high v is is' = grind (arith, ints, nat_tests, is, is')

moved_down : (lo hi start low high v : ℤ) → low ≡ start -ℤ hi → high ≡ start -ℤ lo → is_between low high v ≡ is_between lo hi (start +ℤ neg_ℤ v)
moved_down lo hi start low high v is is' = grind (arith, ints, nat_tests, is, is')

times_opposite : (a b : ℤ) → neg_ℤ a *ℤ b ≡ neg_ℤ (a *ℤ b)
times_opposite a b = same (product (opposite (part a)) (part b)) (opposite (product (part a) (part b))) (omega arith)

pub risen : (lo hi start slope low high : ℤ) (rise k : ℕ) → slope ≡ pos rise → low ≡ lo -ℤ start → high ≡ hi -ℤ start →
    is_between low high (pos (rise * k)) ≡ is_between lo hi (start +ℤ slope *ℤ pos k)
risen lo hi start slope low high rise k steep is is' = moved_up lo hi start low high (pos (rise * k)) is is' ∙ ap (λ z. is_between lo hi (start +ℤ z *ℤ pos k)) (sym steep)

pub fallen : (lo hi start slope low high : ℤ) (rise k : ℕ) → slope ≡ neg_ℤ (pos rise) → low ≡ start -ℤ hi → high ≡ start -ℤ lo →
    is_between low high (pos (rise * k)) ≡ is_between lo hi (start +ℤ slope *ℤ pos k)
fallen lo hi start slope low high rise k steep is is' =
    moved_down lo hi start low high (pos (rise * k)) is is'
    ∙ ap (λ z. is_between lo hi (start +ℤ z)) (sym (times_opposite (pos rise) (pos k)))
    ∙ ap (λ z. is_between lo hi (start +ℤ z *ℤ pos k)) (sym steep)

pub upward : (slope : ℤ) (rise : ℕ) → pos 0 ≤ℤ slope → rise ≡ unsigned_abs slope → slope ≡ pos rise
upward slope rise level is = omega (arith, ints, level, is)

pub downward : (slope : ℤ) (rise : ℕ) → slope <ℤ pos 0 → rise ≡ unsigned_abs slope → slope ≡ neg_ℤ (pos rise)
downward slope rise below is = omega (arith, ints, below, is)

-- ---- a line from a later tick on

moved_on : (start slope : ℤ) (past k : ℕ) → start +ℤ slope *ℤ pos past +ℤ slope *ℤ pos k ≡ start +ℤ slope *ℤ pos (past + k)
moved_on start slope past k =
    same (sum (sum (part start) (product (part slope) (number past))) (product (part slope) (number k))) (sum (part start) (product (part slope) (number (past + k)))) (omega arith)

pub line_later : (start slope leans from a b : ℤ) (past k : ℕ) → leans ≡ slope → from ≡ a +ℤ b *ℤ pos past → a ≡ start → b ≡ slope →
    from +ℤ leans *ℤ pos k ≡ start +ℤ slope *ℤ pos (past + k)
line_later start slope leans from a b past k same_slope is same_start same_b =
    (λ i. (is ∙ (λ j. same_start j +ℤ same_b j *ℤ pos past)) i +ℤ same_slope i *ℤ pos k) ∙ moved_on start slope past k
