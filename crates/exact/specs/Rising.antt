-- Functions that fall or rise from each number to the next.
use Rattle.std.specs.Prelude.{ℕ, ◌+◌, ◌<◌, ◌≤◌, ℤ, ◌≤ℤ◌, ◌<ℤ◌}

-- f falls, or stays, at each step below n
abbrev pub FallsTo : (ℕ → ℤ) → ℕ → Type 0
FallsTo f n = (k : ℕ) → k < n → f (k + 1) ≤ℤ f k

-- f falls at each step below n, and never stays
abbrev pub DropsTo : (ℕ → ℤ) → ℕ → Type 0
DropsTo f n = (k : ℕ) → k < n → f (k + 1) <ℤ f k

-- f rises, or stays, at each step from m on and below n
abbrev pub RisesIn : (ℕ → ℤ) → ℕ → ℕ → Type 0
RisesIn f m n = (k : ℕ) → m ≤ k → k < n → f k ≤ℤ f (k + 1)
