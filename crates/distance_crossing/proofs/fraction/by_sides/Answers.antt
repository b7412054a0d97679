use Rattle.std.proofs.Common.{◌≡◌, ◌≤◌, Bool, true, false, ℕ, ℤ, pos, ◌+ℤ◌, ◌-ℤ◌, ◌*ℤ◌, ◌≤ℤ◌, int_le, if◌then◌else◌, unsigned_abs, subst, sym, ap, ◌∙◌, arith}
use Rattle.std.proofs.lemmas.Int.{ints, clamps}
use Rattle.std.proofs.lemmas.Nat.{mul-le}
use Rattle.exact.proofs.Sizes.{steps}
use Rattle.exact.proofs.Integers.{product_least}
use Rattle.geometry.proofs.Squares.{square_is}
use Rattle.geometry.specs.Circle.{is_wide, largest}
use Rattle.distance_crossing.specs.LeastCircle.{over_of, under_of}
use Rattle.distance_crossing.proofs.fraction.by_sides.Goals as goal

if_true : (w : Bool) (x y v : ℤ) → w ≡ true → v ≡ x → v ≡ (if w then x else y)
if_true true x y v e h = h
if_true false x y v e h = absurd (cc)

if_false : (w : Bool) (x y v : ℤ) → w ≡ false → v ≡ y → v ≡ (if w then x else y)
if_false true x y v e h = absurd (cc)
if_false false x y v e h = h

whole : (z : ℤ) → pos 0 ≤ℤ z → pos (unsigned_abs z) ≡ z
whole z h = omega (arith, ints)

largest_least : (a b c : ℤ) → pos 0 ≤ℤ a → pos 0 ≤ℤ largest a b c
largest_least a b c h = omega (arith, ints, clamps)

width_is : (a b c l : ℤ) (v : Bool) → l ≡ largest a b c → v ≡ int_le (a +ℤ b +ℤ c -ℤ l) l → is_wide a b c ≡ v
width_is a b c l v e h = let P : ℤ → Type 0 = λ k. v ≡ int_le (a +ℤ b +ℤ c -ℤ k) k in sym (subst P e h)

wide_over : (a b c l : ℤ) (n : ℕ) → l ≡ largest a b c → n ≡ unsigned_abs l → pos 0 ≤ℤ a → is_wide a b c ≡ true → pos n ≡ over_of a b c
wide_over a b c l n e f h w = if_true (is_wide a b c) _ _ (pos n) w (ap pos f ∙ ap (λ k. pos (unsigned_abs k)) e ∙ whole (largest a b c) (largest_least a b c h))

corners_over : (a b c t : ℤ) (n : ℕ) → t ≡ a *ℤ b *ℤ c → n ≡ unsigned_abs t → pos 0 ≤ℤ a → pos 0 ≤ℤ b → pos 0 ≤ℤ c → is_wide a b c ≡ false → pos n ≡ over_of a b c
corners_over a b c t n e f g h i w =
    if_false (is_wide a b c) _ _ (pos n) w (ap pos f ∙ ap (λ k. pos (unsigned_abs k)) e ∙ whole (a *ℤ b *ℤ c) (product_least (a *ℤ b) c (product_least a b g h) i))

corners_under : (a b c area t : ℤ) (n : ℕ) → t ≡ area *ℤ area → n ≡ unsigned_abs t → is_wide a b c ≡ false → pos n ≡ under_of a b c area
corners_under a b c area t n e f w = if_false (is_wide a b c) _ _ (pos n) w (ap pos f ∙ ap (λ k. pos (unsigned_abs k)) e ∙ square_is area)

pub returns-then-is_wide-clause-over : goal.returns-then-is_wide-clause-over
returns-then-is_wide-clause-over c =
    let longest : c.max-longest.result ≡ largest c.args.a c.args.b c.args.c = grind (arith, steps) in
    let wide : true ≡ int_le (c.args.a +ℤ c.args.b +ℤ c.args.c -ℤ c.max-longest.result) c.max-longest.result = grind (arith, steps) in
    wide_over c.args.a c.args.b c.args.c c.max-longest.result c.unsigned_abs.result longest (grind (arith, steps)) c.requires.squares.a_least
    (width_is c.args.a c.args.b c.args.c c.max-longest.result true longest wide)

pub times-requires-2 : goal.times-requires-2
times-requires-2 c =
    let ab = mul-le (unsigned_abs c.args.a) (unsigned_abs c.args.b) 4000000000000 4000000000000 c.requires.sizes.a_most c.requires.sizes.b_most in
    let first : unsigned_abs c.times.result ≤ 16000000000000000000000000 = grind (arith, steps) in
    let all = mul-le (unsigned_abs c.times.result) (unsigned_abs c.args.c) 16000000000000000000000000 4000000000000 first c.requires.sizes.c_most in
    grind (arith, steps)

pub invariant_of-result-2 : goal.invariant_of-result-2
invariant_of-result-2 c =
    let ab = mul-le (unsigned_abs c.args.a) (unsigned_abs c.args.b) 4000000000000 4000000000000 c.requires.sizes.a_most c.requires.sizes.b_most in
    record { short = grind (arith, steps) }

pub returns-clause-over : goal.returns-clause-over
returns-clause-over c =
    let longest : c.max-longest.result ≡ largest c.args.a c.args.b c.args.c = grind (arith, steps) in
    let narrow : false ≡ int_le (c.args.a +ℤ c.args.b +ℤ c.args.c -ℤ c.max-longest.result) c.max-longest.result = grind (arith, steps) in
    let product : c.times-2.result ≡ c.args.a *ℤ c.args.b *ℤ c.args.c = grind (arith, steps) in
    corners_over c.args.a c.args.b c.args.c c.times-2.result c.unsigned_abs-2.result product (grind (arith, steps)) c.requires.squares.a_least c.requires.squares.b_least c.requires.squares.c_least
    (width_is c.args.a c.args.b c.args.c c.max-longest.result false longest narrow)

pub returns-clause-under : goal.returns-clause-under
returns-clause-under c =
    let longest : c.max-longest.result ≡ largest c.args.a c.args.b c.args.c = grind (arith, steps) in
    let narrow : false ≡ int_le (c.args.a +ℤ c.args.b +ℤ c.args.c -ℤ c.max-longest.result) c.max-longest.result = grind (arith, steps) in
    let area : c.times-3.result ≡ c.args.area *ℤ c.args.area = grind (arith, steps) in
    corners_under c.args.a c.args.b c.args.c c.args.area c.times-3.result c.unsigned_abs-3.result area (grind (arith, steps))
    (width_is c.args.a c.args.b c.args.c c.max-longest.result false longest narrow)
