-- Slots of 64 ticks one after the other: there are 64, and after the last one comes the first again. In which of them
-- rows may have ticks.
use Rattle.std.specs.Prelude.{◌≡◌, ℕ, ◌/◌, ◌%◌, ◌<◌, ◌≤◌, ◌==◌, Bool, true, false, List, slice_get}
use Rattle.std.specs.Int.{bit_at}
use Rattle.std.specs.Option.{option_map_or}
use Rattle.kept_rows.specs.declared.slots.Slots.{Slots}
use Rattle.kept_rows.specs.declared.marks.Marks.{Marks}

-- whether the slot of a tick is one of these
abbrev pub has_slot : Slots → ℕ → Bool
has_slot slots t = bit_at slots.bits (t / 64 % 64) == 1

-- each of these ticks has its slot among them
abbrev pub AreIn : (ℕ → Bool) → Slots → Type 0
AreIn ticks slots = (t : ℕ) → ticks t ≡ true → has_slot slots t ≡ true

-- whether a place may have the tick by its mark; past the last mark it may have any
abbrev pub may_have : List Slots → ℕ → ℕ → Bool
may_have marks at t = option_map_or (λ slots. has_slot slots t) (slice_get marks at) true

-- a row has the ticks alone that the mark of its page of 16 lets it have
abbrev pub AreMarked : (ℕ → ℕ → Bool) → Marks → Type 0
AreMarked rows marks = (c t : ℕ) → may_have marks.pages.items (c / 16) t ≡ false → rows c t ≡ false

-- the rows of the numbers from `from` up to `to` have no tick in the slots
abbrev pub HaveNoneAt : (ℕ → ℕ → Bool) → Slots → ℕ → ℕ → Type 0
HaveNoneAt rows slots from to = (c t : ℕ) → from ≤ c → c < to → has_slot slots t ≡ true → rows c t ≡ false

-- one of the numbers from `from` up to `to`, before which no row has a tick in the slots
pub record IsNextAt (rows : ℕ → ℕ → Bool) (slots : Slots) (from to number : ℕ) : Type 0 where
  pub least : from ≤ number
  pub below : number < to
  pub before : HaveNoneAt rows slots from number
