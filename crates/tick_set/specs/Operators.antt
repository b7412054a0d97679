-- The temporal operators at a tick t, where e is the last tick that counts. Their parts are tests of ticks.
use Rattle.std.specs.Prelude.{◌≡◌, ℕ, ◌+◌, ◌<◌, ◌≤◌, min, Bool, true, ◌&&◌, nat_lt}
use Rattle.std.specs.List.{list_any, list_all}
use Rattle.tick_set.specs.Ticks.{between, some_in, all_in}

-- some u of lo to hi has h, and each v from t up to u, without u, has g
unfoldable pub until_in : (ℕ → Bool) → (ℕ → Bool) → ℕ → ℕ → ℕ → Bool
until_in g h lo hi t = list_any (λ u. h u && list_all g (between t u)) (between lo (hi + 1))

-- what a true answer says: there is such a u, the goal
pub record Leads (g h : ℕ → Bool) (lo hi t : ℕ) : Type 0 where
  pub goal : ℕ
  pub from : lo ≤ goal
  pub upto : goal ≤ hi
  pub holds : h goal ≡ true
  pub guard : (v : ℕ) → t ≤ v → v < goal → g v ≡ true

-- NEXTTIME g
abbrev pub next_at : (ℕ → Bool) → ℕ → ℕ → Bool
next_at g e t = nat_lt t e && g (t + 1)

-- g UNTIL h, and within c ticks, and after at least c ticks
abbrev pub until_at : (ℕ → Bool) → (ℕ → Bool) → ℕ → ℕ → Bool
until_at g h e t = until_in g h t e t

abbrev pub until_within_at : ℕ → (ℕ → Bool) → (ℕ → Bool) → ℕ → ℕ → Bool
until_within_at c g h e t = until_in g h t (min (t + c) e) t

abbrev pub until_after_at : ℕ → (ℕ → Bool) → (ℕ → Bool) → ℕ → ℕ → Bool
until_after_at c g h e t = until_in g h (t + c) e t

-- EVENTUALLY g, and within c ticks, and after at least c ticks
abbrev pub eventually_at : (ℕ → Bool) → ℕ → ℕ → Bool
eventually_at g e t = some_in g t e

abbrev pub eventually_within_at : ℕ → (ℕ → Bool) → ℕ → ℕ → Bool
eventually_within_at c g e t = some_in g t (min (t + c) e)

abbrev pub eventually_after_at : ℕ → (ℕ → Bool) → ℕ → ℕ → Bool
eventually_after_at c g e t = some_in g (t + c) e

-- ALWAYS g, and for c ticks
abbrev pub always_at : (ℕ → Bool) → ℕ → ℕ → Bool
always_at g e t = all_in g t e

abbrev pub always_for_at : ℕ → (ℕ → Bool) → ℕ → ℕ → Bool
always_for_at c g e t = all_in g t (min (t + c) e)
