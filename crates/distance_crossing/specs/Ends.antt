-- A function of the whole numbers that falls to `nearest` and rises from there up to `last`, and two numbers round each end of the stretch where it is at most a limit.
use Rattle.std.specs.Prelude.{ℕ, ◌<◌, ◌≤◌, ℤ, ◌≤ℤ◌, ◌<ℤ◌, ◌≡◌, int_le, nat_le}

-- round the first: below `low` the value is above the limit, at `high` it is not
pub record BracketsFirst (f : ℕ → ℤ) (limit : ℤ) (nearest low high : ℕ) : Type 0 where
  pub ordered : low ≤ high
  pub bound : high ≤ nearest
  pub near : f high ≤ℤ limit
  pub far : (k : ℕ) → k < low → limit <ℤ f k

-- round the last: above `high` the value is above the limit, at `low` it is not
pub record BracketsLast (f : ℕ → ℤ) (limit : ℤ) (nearest last low high : ℕ) : Type 0 where
  pub from : nearest ≤ low
  pub ordered : low ≤ high
  pub bound : high ≤ last
  pub near : f low ≤ℤ limit
  pub far : (k : ℕ) → high < k → k ≤ last → limit <ℤ f k

-- up to the nearest number a function is at most the limit from this number on
abbrev pub IsFirstNear : (ℕ → ℤ) → ℤ → (nearest first : ℕ) → Type 0
IsFirstNear f limit nearest first = (k : ℕ) → k ≤ nearest → int_le (f k) limit ≡ nat_le first k

-- from the nearest number to a last one a function is at most the limit up to this number
abbrev pub IsLastNear : (ℕ → ℤ) → ℤ → (nearest end last : ℕ) → Type 0
IsLastNear f limit nearest end last = (k : ℕ) → nearest ≤ k → k ≤ end → int_le (f k) limit ≡ nat_le k last
