-- Objects that may be left out.
use Rattle.std.specs.Prelude.{◌≡◌, ℕ, ℤ, ◌≤◌, Bool, true, false, Option, is_some, List, All}
use Rattle.std.specs.List.{filter}
use Rattle.nearness.specs.Nearest.{rank}

-- each of the objects that isn't kept is absent, or k of the kept ones stand before it
abbrev pub AreBehind : (ℕ → Option ℤ) → List ℕ → (ℕ → Bool) → ℕ → Type 0
AreBehind far ids keep k = All (λ id. keep id ≡ false → is_some (far id) ≡ true → k ≤ rank far (filter keep ids) id) ids
