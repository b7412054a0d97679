-- Kept rows: pages of 16 sets by number. An empty set, and a page that isn't made, have no tick.
use Rattle.std.specs.Prelude.{◌≡◌, ℕ, ◌*◌, ◌/◌, ◌%◌, ◌≤◌, ◌==◌, Bool, true, false, ◌||◌, List, [], length, slice_get, slice_index_or}
use Rattle.std.specs.Option.{option_map_or}

-- the set at a place of a page
abbrev pub page_has : {S : Type 0} → (S → ℕ → Bool) → List S → ℕ → ℕ → Bool
page_has member page at tick = option_map_or (λ s. member s tick) (slice_get page at) false

-- the page of a number, which is empty where it isn't made
abbrev pub page_of : {S : Type 0} → List (List S) → ℕ → List S
page_of pages number = slice_index_or pages (number / 16) []

-- whether the row of a number has a tick
abbrev pub row_has : {S : Type 0} → (S → ℕ → Bool) → List (List S) → ℕ → ℕ → Bool
row_has member pages number tick = page_has member (page_of pages number) (number % 16) tick

-- a page has all its sets, or isn't made
abbrev pub is_whole : {S : Type 0} → List S → Bool
is_whole page = length page == 16

abbrev pub IsPage : {S : Type 0} → List S → Type 0
IsPage page = (is_whole page || (length page == 0)) ≡ true

-- whether the page of a number is made
abbrev pub is_made : {S : Type 0} → List (List S) → ℕ → Bool
is_made pages number = is_whole (page_of pages number)

-- there are pages for the numbers below the size
abbrev pub HasRoom : {S : Type 0} → List (List S) → ℕ → Type 0
HasRoom pages size = size ≤ length pages * 16

-- no set of a page has a tick
abbrev pub IsBlankPage : {S : Type 0} → (S → ℕ → Bool) → List S → Type 0
IsBlankPage member page = (i t : ℕ) → page_has member page i t ≡ false
