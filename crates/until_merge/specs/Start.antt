-- From where a set leads to a tick.
use Rattle.std.specs.Prelude.{◌≡◌, ◌+◌, ◌<◌, ◌≤◌, ℕ, Bool, true}

-- start is the first tick from which the guard has each tick up to the goal, without it, where the goal is at
-- most reach ticks later
pub record IsStart (guard : ℕ → Bool) (reach goal start : ℕ) : Type 0 where
  pub upto : start ≤ goal
  pub near : goal ≤ start + reach
  pub guarded : (v : ℕ) → start ≤ v → v < goal → guard v ≡ true
  pub first : (t : ℕ) → t ≤ goal → goal ≤ t + reach → ((v : ℕ) → t ≤ v → v < goal → guard v ≡ true) → start ≤ t
