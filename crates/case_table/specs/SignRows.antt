-- Rows of a code and its truth for a negative number, for 0 and for a positive number.
use Rattle.std.specs.Prelude.{ℕ, ℤ, pos, negsuc, zero, suc, Bool, true, false, not, ◌&&◌, ◌==◌, List, [], ◌∷◌, Option, option_map, find}
use Rattle.std.specs.List.{list_any}

-- what is written for a negative number, for 0 or for a positive number
abbrev pub by_sign : Bool → Bool → Bool → ℤ → Bool
by_sign negative none positive (negsuc n) = negative
by_sign negative none positive (pos zero) = none
by_sign negative none positive (pos (suc n)) = positive

-- the truth of the first row with this code
abbrev pub truth_of : List (ℕ × Bool × Bool × Bool) → ℕ → ℤ → Option Bool
truth_of rows code sign = option_map (λ r. by_sign r.1 r.2 r.3 sign) (find (λ r. r.0 == code) rows)

-- no two rows have the same code
abbrev pub codes_differ : List (ℕ × Bool × Bool × Bool) → Bool
codes_differ [] = true
codes_differ (r ∷ rows) = not (list_any (λ s. s.0 == r.0) rows) && codes_differ rows

-- the comparisons <, <=, =, !=, >= and > of two numbers, by the sign of their difference
abbrev pub comparison_rows : List (ℕ × Bool × Bool × Bool)
comparison_rows =
    (0, true, false, false)
    ∷ (1, true, true, false)
    ∷ (2, false, true, false)
    ∷ (3, true, false, true)
    ∷ (4, false, true, true)
    ∷ (5, false, false, true)
    ∷ []
