-- For this crate and for the crates above: what holds of truth values.
use Rattle.std.proofs.Common.{Bool, ap, arith, cond, false, not, refl, sym, true, ◌&&◌, ◌||◌, ◌∙◌, ◌≡◌, ◌≤◌}
use Rattle.std.proofs.lemmas.Bool.{false≢true}

pub and_false : (b : Bool) → (b && false) ≡ false
and_false true = refl
and_false false = refl

pub and_not : (b : Bool) → (b && not b) ≡ false
and_not true = refl
and_not false = refl

pub and_true : (b : Bool) → (b && true) ≡ b
and_true true = refl
and_true false = refl

pub or_false : (x : Bool) → (x || false) ≡ x
or_false true = refl
or_false false = refl

pub false_is_and : (b : Bool) → false ≡ (b && false)
false_is_and true = refl
false_is_and false = refl

pub not_not : (b : Bool) → not (not b) ≡ b
not_not true = refl
not_not false = refl

pub true_from_not : (b : Bool) → not b ≡ false → b ≡ true
true_from_not true h = refl
true_from_not false h = cc

pub false_from_not : (b : Bool) → not b ≡ true → b ≡ false
false_from_not true is = sym is
false_from_not false is = refl

pub is_or_false : (b : Bool) → b ≡ (b || false)
is_or_false true = refl
is_or_false false = refl

pub and_swap : (a b : Bool) → (a && b) ≡ (b && a)
and_swap true true = refl
and_swap true false = refl
and_swap false true = refl
and_swap false false = refl

pub both_true : (a b : Bool) → (a && b) ≡ true → (a ≡ true) × (b ≡ true)
both_true a b is = grind arith

pub both_false : (a b : Bool) → (a || b) ≡ false → (a ≡ false) × (b ≡ false)
both_false true b h = absurd (cc h)
both_false false b h = (refl, h)

pub same_truth : (s t : Bool) → (s ≡ true → t ≡ true) → (t ≡ true → s ≡ true) → s ≡ t
same_truth true t h k = sym (h refl)
same_truth false true h k = k refl
same_truth false false h k = refl

pub cond_at_most : (b c : Bool) → (b ≡ true → c ≡ true) → cond b 1 0 ≤ cond c 1 0
cond_at_most true true so = omega arith
cond_at_most true false so = absurd (false≢true (so refl))
cond_at_most false c so = omega arith

pub or_of_false : (a b : Bool) → a ≡ false → b ≡ false → (a || b) ≡ false
or_of_false a b ha hb = ap (λ x. x || b) ha ∙ hb

pub second_false : (a b : Bool) → a ≡ true → (a && b) ≡ false → b ≡ false
second_false true b first both = both
second_false false b first both = absurd (false≢true first)

pub and_second_false : (b c : Bool) → c ≡ false → (b && c) ≡ false
and_second_false true c h = h
and_second_false false c h = refl

pub or_second : (a b : Bool) → b ≡ true → (a || b) ≡ true
or_second true b e = refl
or_second false b e = e

pub and_over_or : (e p q : Bool) → ((e && p) || (e && q)) ≡ (e && (p || q))
and_over_or true p q = refl
and_over_or false p q = refl

pub or_grouped : (m l r : Bool) → ((m || l) || r) ≡ (m || (l || r))
or_grouped true l r = refl
or_grouped false l r = refl

pub both_and : (a a' b b' : Bool) → a ≡ a' → b ≡ b' → (a && b) ≡ (a' && b')
both_and a a' b b' e f = λ i. e i && f i
