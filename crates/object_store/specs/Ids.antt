-- The lists of ids that are kept for each class.
use Rattle.std.specs.Prelude.{ℕ, ◌-◌, List, [], ◌∷◌, ◌++◌, length, take, slice_index_or, slice_set}

-- with one more id in the list of a class
abbrev pub with_member : List (List ℕ) → ℕ → ℕ → List (List ℕ)
with_member members number id = slice_set members number (slice_index_or members number [] ++ id ∷ [])

-- without the last id in the list of a class
abbrev pub without_member : List (List ℕ) → ℕ → List (List ℕ)
without_member members number =
    slice_set members number (take (length (slice_index_or members number []) - 1) (slice_index_or members number []))
