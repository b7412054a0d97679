-- Functions of the whole numbers that are convex.
use Rattle.std.specs.Prelude.{ℕ, ◌+◌, ℤ, ◌+ℤ◌, ◌≤ℤ◌}

-- each value is at most half way between its neighbors, so from each number to the next f rises no less than before
abbrev pub Bends : (ℕ → ℤ) → Type 0
Bends f = (k : ℕ) → (f (k + 1) +ℤ f (k + 1)) ≤ℤ (f k +ℤ f (k + 2))
