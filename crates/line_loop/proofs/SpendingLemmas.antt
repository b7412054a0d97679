-- What is spent on lines, one after another.
use Rattle.std.proofs.Common.{◌≡◌, ℕ, ◌+◌, ◌≤◌, ◌==◌, List, [], ◌∷◌, ◌++◌, ◌∙◌, ap, sym, refl, subst, if◌then◌else◌, true, false, inl, inr, Option, Some, length, arith}
use Rattle.std.proofs.lemmas.Bool.Decides.{nat_tests}
use Rattle.line_loop.specs.Kept.{IsKeptLine, IsLonger}
use Rattle.line_loop.specs.Machine.{Machine, after}
use Rattle.line_loop.specs.Spending.{Costs, total_cost}
use Rattle.line_loop.proofs.MachineLemmas.{after-append}

no_length : (n : ℕ) → (n == 0) ≡ true → n ≡ 0
no_length n is = grind (arith, nat_tests, is)

pub no_bytes : (xs : List ℕ) → (length xs == 0) ≡ true → xs ≡ []
no_bytes [] none = refl
no_bytes (x ∷ xs) none =
    let zero : length (x ∷ xs) ≡ 0 = no_length (length (x ∷ xs)) none in absurd (omega (arith, zero))

module _ {T : Type 0} (m : Machine T) (cost : Costs T) where
  total_cost-done : (s : T) (lines : List (List ℕ)) → m.done s ≡ true → total_cost m cost s lines ≡ 0
  total_cost-done s [] d = refl
  total_cost-done s (line ∷ lines) d = rw d

  total_cost-append : (s : T) (xs ys : List (List ℕ)) →
      total_cost m cost s (xs ++ ys) ≡ total_cost m cost s xs + total_cost m cost (after m s xs) ys
  total_cost-append s [] ys = omega arith
  total_cost-append s (x ∷ xs) ys =
      elim (m.done s) as (λ b. m.done s ≡ b → (if b then 0 else cost s x + total_cost m cost (m.next s x) (xs ++ ys))
      ≡ (if b then 0 else cost s x + total_cost m cost (m.next s x) xs) + total_cost m cost (if b then s else after m (m.next s x) xs) ys) [
        | true ↦ λ d. omega (arith, total_cost-done s ys d)
        | false ↦ λ d. omega (arith, total_cost-append (m.next s x) xs ys)
      ] refl

  total_cost-one : (s : T) (line : List ℕ) → m.done s ≡ false → total_cost m cost s (line ∷ []) ≡ cost s line
  total_cost-one s line going_on = rw going_on (omega arith)

  -- what is kept of a line costs what the line does
  kept_costs : (longest : Option ℕ) (kept line : List ℕ) →
      ((a b : List ℕ) → IsLonger longest a → IsLonger longest b → (state : T) → cost state a ≡ cost state b) →
      IsKeptLine longest kept line → (state : T) → cost state kept ≡ cost state line
  kept_costs longest kept line long_lines (inl is) state = ap (cost state) is
  kept_costs longest kept line long_lines (inr both) state = long_lines kept line both.0 both.1 state

  -- one line was answered, or failed
  pub line_spends : (longest : Option ℕ) (kept line : List ℕ) (now : T) (old new : ℕ) →
      ((a b : List ℕ) → IsLonger longest a → IsLonger longest b → (state : T) → cost state a ≡ cost state b) →
      IsKeptLine longest kept line → m.done now ≡ false → new ≤ old + cost now kept → new ≤ old + total_cost m cost now (line ∷ [])
  line_spends longest kept line now old new long_lines part going_on spent =
      omega (arith, spent, kept_costs longest kept line long_lines part now, total_cost-one now line going_on)

  -- more lines were answered, after those before
  pub more_spent : (start now : T) (before more : List (List ℕ)) (old between new : ℕ) → now ≡ after m start before →
      between ≤ old + total_cost m cost start before → new ≤ between + total_cost m cost now more →
      new ≤ old + total_cost m cost start (before ++ more)
  more_spent start now before more old between new is first second =
      omega (arith, first, second, ap (λ s. total_cost m cost s more) is, total_cost-append start before more)

  -- and others stand after them
  pub front_spent : (start : T) (lines front more : List (List ℕ)) (old new : ℕ) → lines ≡ front ++ more →
      new ≤ old + total_cost m cost start front → new ≤ old + total_cost m cost start lines
  front_spent start lines front more old new split spent =
      omega (arith, spent, ap (total_cost m cost start) split, total_cost-append start front more)
