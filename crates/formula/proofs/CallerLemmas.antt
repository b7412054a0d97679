-- For the crates above: the variables that pass a test.
use Rattle.std.proofs.Common.{◌≡◌, ℕ, ◌<◌, Bool, if◌then◌else◌, List, [], ◌∷◌, arith}
use Rattle.formula.specs.Variables.{variables_in}

abbrev keep : Bool → ℕ → List ℕ → List ℕ
keep b x xs = if b then x ∷ xs else xs

-- tests that agree on the variables that there are
pub variables_same : (p q : ℕ → Bool) → ((v : ℕ) → v < 4 → p v ≡ q v) → variables_in p ≡ variables_in q
variables_same p q h = λ i. keep (h 0 (omega arith) i) 0 (keep (h 1 (omega arith) i) 1 (keep (h 2 (omega arith) i) 2 (keep (h 3 (omega arith) i) 3 [])))
