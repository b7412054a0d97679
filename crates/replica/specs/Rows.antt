-- The rows of an answer: targets in the order of their bytes, each with its ticks.
use Rattle.std.specs.Prelude.{ℕ, max, nat_le, unwrap_or, List, [], ◌∷◌, ◌++◌, codes, decimal, if◌then◌else◌}
use Rattle.std.specs.BTreeMap.{insert_entry, is_at}
use Rattle.std.specs.Cmp.Lexicographic.{slice_cmp}
use Rattle.std.specs.List.{flat_map, list_any}
use Rattle.std.specs.List.Sorted.{IsStrictlySortedBy}
use Rattle.std.specs.Map.{keys_of, lookup}
use Rattle.std.specs.Ordering.{nat_cmp}
use Rattle.std.specs.declared.cmp.Ordering.{Ordering}
use Rattle.tick_set.specs.declared.operation.SetOperation.{SetOperation}
use Rattle.replica.specs.Ticks.{combined}

-- a target and its ticks
abbrev pub TargetRow : Type 0
TargetRow = List ℕ × List (ℕ × ℕ)

abbrev pub bytes_cmp : List ℕ → List ℕ → Ordering
bytes_cmp = slice_cmp nat_cmp

-- the ticks of a target; one that has no row has none
abbrev pub ticks_at : List ℕ → List TargetRow → List (ℕ × ℕ)
ticks_at target rows = unwrap_or (lookup (is_at (bytes_cmp target)) rows) []

-- the ticks told of a target are added to its row or taken from it
abbrev pub rows_after_told : SetOperation → TargetRow → List TargetRow → List TargetRow
rows_after_told operation told rows = insert_entry bytes_cmp rows told.0 (combined operation (ticks_at told.0 rows) told.1)

-- the targets ascend by their bytes
abbrev pub AreInOrder : List TargetRow → Type 0
AreInOrder rows = IsStrictlySortedBy bytes_cmp (keys_of rows)

-- ---- As text, with the ticks from one on alone

abbrev pub line_feed : List ℕ
line_feed = 10 ∷ []

-- ` lo..hi`, with the space before it
abbrev pub run_text : ℕ × ℕ → List ℕ
run_text run = codes " " ++ decimal run.0 ++ codes ".." ++ decimal run.1

abbrev pub span_text : ℕ → ℕ × ℕ → List ℕ
span_text first span = if nat_le first span.1 then run_text (max first span.0, span.1) else []

-- `a b : 4..10`; a row without ticks isn't written
abbrev pub target_row_text : ℕ → TargetRow → List ℕ
target_row_text first row =
    if list_any (λ s. nat_le first s.1) row.1 then row.0 ++ codes " :" ++ flat_map (span_text first) row.1 ++ line_feed else []

abbrev pub target_rows_text : ℕ → List TargetRow → List ℕ
target_rows_text first rows = flat_map (target_row_text first) rows
