-- Names and texts by their lengths: one that has more bytes than a word has room for stands for the empty one.
use Rattle.std.specs.Prelude.{ℕ, Bool, nat_le, List, [], length, if◌then◌else◌}
use Rattle.fixed_point.specs.declared.short_text.TheConstants.{WORD_LIMIT}

-- it has at most the bytes of a word
abbrev pub is_short : List ℕ → Bool
is_short word = nat_le (length word) WORD_LIMIT

-- the word that stands for it
abbrev pub short_word : List ℕ → List ℕ
short_word word = if is_short word then word else []
