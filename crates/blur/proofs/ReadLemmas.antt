-- How many different variables an atom has at least.
use Rattle.std.proofs.Common.{◌≡◌, ℕ, ◌+◌, ◌<◌, ◌≤◌, Bool, true, false, ◌||◌, cond, List, [], ◌∷◌, length, arith}
use Rattle.std.specs.Prelude.{◌==◌}
use Rattle.std.specs.List.{filter}
use Rattle.std.proofs.lemmas.Bool.Decides.{nat_tests}
use Rattle.formula.specs.Variables.{variables_in}

abbrev one_if : Bool → ℕ
one_if b = cond b 1 0

length_if : (b : Bool) (x : ℕ) (xs : List ℕ) → length (cond b (x ∷ xs) xs) ≡ one_if b + length xs
length_if true x xs = omega arith
length_if false x xs = omega arith

counted : (p : ℕ → Bool) → length (variables_in p) ≡ one_if (p 0) + (one_if (p 1) + (one_if (p 2) + (one_if (p 3) + 0)))
counted p =
    let three = length_if (p 3) 3 [] in
    let two = length_if (p 2) 2 (filter p (3 ∷ [])) in
    let one = length_if (p 1) 1 (filter p (2 ∷ 3 ∷ [])) in
    let all = length_if (p 0) 0 (filter p (1 ∷ 2 ∷ 3 ∷ [])) in
    omega (arith, three, two, one, all)

one_of : (v : ℕ) → v < 4 → one_if (v == 0) + (one_if (v == 1) + (one_if (v == 2) + (one_if (v == 3) + 0))) ≡ 1
one_of v few = grind (arith, nat_tests)

pub has_one : (v : ℕ) → v < 4 → 1 ≤ length (variables_in (λ w. v == w))
has_one v few = let sum = counted (λ w. v == w) in let one = one_of v few in omega (arith, sum, one)

both_of : (v u w : ℕ) → (v == u) ≡ false → one_if (v == w) + one_if (u == w) ≤ one_if (v == w || u == w)
both_of v u w differ = grind (arith, nat_tests)

pub has_two : (v u : ℕ) → v < 4 → u < 4 → (v == u) ≡ false → 2 ≤ length (variables_in (λ w. v == w || u == w))
has_two v u few less differ =
    let sum = counted (λ w. v == w || u == w) in
    let one = one_of v few in
    let other = one_of u less in
    omega (arith, sum, one, other, both_of v u 0 differ, both_of v u 1 differ, both_of v u 2 differ, both_of v u 3 differ)

either_of : (v u w : ℕ) → one_if (v == w) ≤ one_if (v == w || u == w)
either_of v u w = grind (arith, nat_tests)

pub has_first : (v u : ℕ) → v < 4 → 1 ≤ length (variables_in (λ w. v == w || u == w))
has_first v u few =
    let sum = counted (λ w. v == w || u == w) in
    let one = one_of v few in
    omega (arith, sum, one, either_of v u 0, either_of v u 1, either_of v u 2, either_of v u 3)
