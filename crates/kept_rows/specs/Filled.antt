-- Which numbers may have a row, by flags of groups of 1,024.
use Rattle.std.specs.Prelude.{◌≡◌, ℕ, ◌/◌, ◌<◌, ◌≤◌, Bool, true, false, slice_index_or}
use Rattle.kept_rows.specs.declared.filled.Filled.{Filled}

-- a number whose group's flag isn't set has no ticks; past the last flag nothing is known
abbrev pub AreFilled : (ℕ → ℕ → Bool) → Filled → Type 0
AreFilled rows filled = (c t : ℕ) → slice_index_or filled.groups.items (c / 1024) true ≡ false → rows c t ≡ false

-- whatever rows have these flags, those of the numbers from `from` up to `to` have no ticks
abbrev pub HaveNoneIn : Filled → ℕ → ℕ → Type 0
HaveNoneIn filled from to = (rows : ℕ → ℕ → Bool) → AreFilled rows filled → (c t : ℕ) → from ≤ c → c < to → rows c t ≡ false
