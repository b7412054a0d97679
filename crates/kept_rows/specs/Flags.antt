-- Which numbers may have ticks, by a bit for each in words of 64.
use Rattle.std.specs.Prelude.{◌≡◌, ℕ, ◌/◌, ◌%◌, ◌==◌, Bool, true, false, List, slice_get}
use Rattle.std.specs.Int.{bit_at}
use Rattle.std.specs.Option.{option_map_or}
use Rattle.kept_rows.specs.declared.flags.Flags.{Flags}

-- whether the bit of a number is set; past the last word it is taken to be
abbrev pub is_flagged : List ℕ → ℕ → Bool
is_flagged words number = option_map_or (λ word. bit_at word (number % 64) == 1) (slice_get words (number / 64)) true

-- a number whose bit isn't set has no ticks
abbrev pub AreFlagged : (ℕ → ℕ → Bool) → Flags → Type 0
AreFlagged rows flags = (c t : ℕ) → is_flagged flags.words.items c ≡ false → rows c t ≡ false
