-- Who sends a line, and with which word a line begins.
use Rattle.std.specs.Prelude.{ℕ, Bool, not, ◌==◌, ◌&&◌, nat_le, is_none, List, [], ◌∷◌, length, take, drop, Option, None, Some, option_map, if◌then◌else◌}
use Rattle.case_table.specs.Language.{reserved_words}
use Rattle.case_table.specs.Rows.{code_of}
use Rattle.ftl_lexer.specs.Forms.{after_blanks, begins_name, name_len}
use Rattle.users.specs.declared.sender.TheConstants.{USER_LIMIT}

-- the word at the front of some bytes, which a letter or `_` begins; nothing where none does
abbrev pub word_at : List ℕ → List ℕ
word_at [] = []
word_at (b ∷ bytes) = if begins_name b then take (name_len (b ∷ bytes)) (b ∷ bytes) else []

-- the first token of a line where it is a word, else nothing
abbrev pub first_word : List ℕ → List ℕ
first_word line = word_at (after_blanks line)

-- a user and the line that this user sends
pub record Sent : Type 0 where
  pub user : List ℕ
  pub line : List ℕ

abbrev pub sent : List ℕ × List ℕ → Sent
sent s = record { user = s.0; line = s.1 }

-- a word may be a user where it isn't reserved and isn't too long
abbrev pub may_be_user : List ℕ → Bool
may_be_user word = not (length word == 0) && nat_le (length word) USER_LIMIT && is_none (code_of reserved_words word)

-- what stands after one space
abbrev pub after_space : List ℕ → Option (List ℕ)
after_space [] = None
after_space (b ∷ bytes) = if b == 32 then Some bytes else None

-- a user, one space and the line; None where the bytes don't begin so
abbrev pub sent_in : List ℕ → Option Sent
sent_in bytes =
    if may_be_user (word_at bytes)
    then option_map (λ line. record { user = word_at bytes; line = line }) (after_space (drop (length (word_at bytes)) bytes))
    else None
