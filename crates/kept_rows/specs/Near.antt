-- Near which ticks the rows of a target are: numbers in buckets of 32 cells, by their targets and by where their ticks
-- are. A row whose ticks lie within so many is in the bucket of the stretch after that of its first tick.
use Rattle.std.specs.Prelude.{◌≡◌, ℕ, ◌+◌, ◌*◌, ◌/◌, ◌%◌, ◌^◌, ◌<◌, ◌≤◌, ◌==◌, ◌||◌, ◌&&◌, Bool, true, not, max, List, length, slice_index_or}
use Rattle.std.specs.List.{list_any}
use Rattle.tick_set.specs.Ticks.{between}
use Rattle.tick_set.specs.TickList.{has}
use Rattle.kept_rows.specs.declared.near.Near.{Near}

-- whether a cell of a bucket has a number
abbrev pub is_cell : List ℕ → ℕ → ℕ → Bool
is_cell cells bucket number = list_any (λ i. slice_index_or cells i 0 == number) (between (bucket * 32) (bucket * 32 + 32))

-- a bucket without a free cell may have any number
abbrev pub may_have_number : List ℕ → ℕ → ℕ → Bool
may_have_number cells bucket number = is_cell cells bucket number || not (is_cell cells bucket 4294967295)

-- the bucket of a target and of a stretch of `size` ticks, where there are so many cells
abbrev pub bucket_at : ℕ → ℕ → ℕ → ℕ → ℕ
bucket_at cells target size stretch = (target * 40503 + size * 31 + stretch) % max (cells / 32) 1

-- the lengths by which rows are told apart
abbrev pub is_length : ℕ → Bool
is_length size = size == 16 || (size == 1024 || size == 4294967296)

-- whether a number may be in a bucket of rows of a length near a tick, where a target has `width` numbers
abbrev pub is_near_by : ℕ → List ℕ → ℕ → ℕ → ℕ → Bool
is_near_by size cells width number tick =
    may_have_number cells (bucket_at (length cells) (number / max width 1) size (tick / size)) number
    || may_have_number cells (bucket_at (length cells) (number / max width 1) size (tick / size + 1)) number

-- whether a row may have a tick by the buckets, where there may be rows of the greater lengths or not
abbrev pub is_near_in : Bool → List ℕ → ℕ → ℕ → ℕ → Bool
is_near_in has_long cells width number tick =
    is_near_by 16 cells width number tick
    || (has_long && (is_near_by 1024 cells width number tick || is_near_by 4294967296 cells width number tick))

abbrev pub may_have_tick : Near → ℕ → ℕ → Bool
may_have_tick near number tick = is_near_in near.has_long near.cells.items near.width number tick

-- a row has the ticks alone that the buckets let it have
abbrev pub AreInBuckets : (ℕ → ℕ → Bool) → Near → Type 0
AreInBuckets rows near = (c t : ℕ) → rows c t ≡ true → may_have_tick near c t ≡ true

-- the numbers from `from` up to `to` whose rows have one of the ticks are among these
abbrev pub AreFoundNumbers : (ℕ → Bool) → (ℕ → ℕ → Bool) → ℕ → ℕ → List ℕ → Type 0
AreFoundNumbers ticks rows from to numbers = (c t : ℕ) → from ≤ c → c < to → ticks t ≡ true → rows c t ≡ true → has numbers c ≡ true
