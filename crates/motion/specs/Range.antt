-- The least and the greatest value of a dynamic attribute over ticks.
use Rattle.std.specs.Prelude.{◌≡◌, ℕ, ◌≤◌, ℤ, ◌≤ℤ◌}
use Rattle.motion.specs.Dynamic.{Dynamic, value_at}

-- from tick lo to hi the value is nowhere below the one nor above the other, and somewhere each of them
pub record IsRange (v : Dynamic) (lo hi : ℕ) (least greatest : ℤ) : Type 0 where
  pub at_least : (t : ℕ) → lo ≤ t → t ≤ hi → least ≤ℤ value_at v t
  pub at_most : (t : ℕ) → lo ≤ t → t ≤ hi → value_at v t ≤ℤ greatest
  pub least_reached : (t : ℕ) × (lo ≤ t) × (t ≤ hi) × (value_at v t ≡ least)
  pub greatest_reached : (t : ℕ) × (lo ≤ t) × (t ≤ hi) × (value_at v t ≡ greatest)
