-- Rows of a word and its code, and what is looked up in them.
use Rattle.std.specs.Prelude.{ℕ, ◌==◌, ◌&&◌, Bool, true, List, ◌∷◌, [], length, nat_lt, nat_le, is_none, Option, option_map, find, bytes_eq}
use Rattle.case_table.specs.declared.rows.TheConstants.{ROW_WORD_LIMIT}

-- the code of the first row with this word
abbrev pub code_of : List (List ℕ × ℕ) → List ℕ → Option ℕ
code_of rows word = option_map (λ r. r.1) (find (λ r. bytes_eq r.0 word) rows)

-- the word of the first row with this code
abbrev pub word_of : List (List ℕ × ℕ) → ℕ → Option (List ℕ)
word_of rows code = option_map (λ r. r.0) (find (λ r. r.1 == code) rows)

-- there is room for one more row, the word is short enough, and no row has it or the code
abbrev pub has_room_for : ℕ → List (List ℕ × ℕ) → List ℕ → ℕ → Bool
has_room_for room rows word code =
    nat_lt (length rows) room && nat_le (length word) ROW_WORD_LIMIT && is_none (code_of rows word) && is_none (word_of rows code)

-- no two rows have the same word or the same code
abbrev pub are_distinct_rows : List (List ℕ × ℕ) → Bool
are_distinct_rows [] = true
are_distinct_rows (r ∷ rs) = is_none (code_of rs r.0) && is_none (word_of rs r.1) && are_distinct_rows rs
