-- What names, numbers, texts and symbols are made of, and which token begins at the front of some bytes.
use Rattle.std.specs.Prelude.{ℕ, ◌+◌, ◌==◌, ◌||◌, Bool, List, [], ◌∷◌, take, drop, Option, Some, None, option_map, position, if◌then◌else◌, ◌≤◌}
use Rattle.std.specs.List.{prefix_len}
use Rattle.std.specs.Option.{option_map_or}
use Rattle.std.specs.Char.{is_ascii_digit, is_ascii_alphabetic, is_ascii_alphanumeric}
use Rattle.case_table.specs.Rows.{code_of}
use Rattle.case_table.specs.Language.{reserved_words, symbols}
use Rattle.ftl_lexer.specs.declared.kinds.Kind.{Kind}
use Rattle.ftl_lexer.specs.declared.kinds.Kind.TheVariants.{Name, Number, Text, Sym, Key}
use Rattle.ftl_lexer.specs.declared.buffer.TheConstants.{LEXER_LIMIT}

-- a space or a tab, which separate tokens
abbrev pub is_blank : ℕ → Bool
is_blank b = b == 32 || b == 9

-- what stands after the spaces and tabs at the front
abbrev pub after_blanks : List ℕ → List ℕ
after_blanks line = drop (prefix_len is_blank line) line

-- a letter or `_`
abbrev pub begins_name : ℕ → Bool
begins_name b = is_ascii_alphabetic b || b == 95

-- a letter, a digit or `_`
abbrev pub continues_name : ℕ → Bool
continues_name b = is_ascii_alphanumeric b || b == 95

abbrev pub is_quote : ℕ → Bool
is_quote b = b == 34

-- as many bytes of a name as there are
abbrev pub name_len : List ℕ → ℕ
name_len = prefix_len continues_name

-- as many digits as there are
abbrev pub digits_len : List ℕ → ℕ
digits_len = prefix_len is_ascii_digit

-- a point and the digits after it, where there is a digit
abbrev pub fraction_len : List ℕ → ℕ
fraction_len [] = 0
fraction_len (b ∷ bytes) = if b == 46 then (if digits_len bytes == 0 then 0 else 1 + digits_len bytes) else 0

-- digits, and a point and digits where they follow
abbrev pub number_len : List ℕ → ℕ
number_len bytes = digits_len bytes + fraction_len (drop (digits_len bytes) bytes)

-- a text with both its quotes, by the bytes after the first one; None where it isn't closed
abbrev pub text_len : List ℕ → Option ℕ
text_len bytes = option_map (λ n. n + 2) (position is_quote bytes)

-- a reserved word, or else a name
abbrev pub word_kind : List ℕ → Kind
word_kind word = option_map_or (λ code. Key code) (code_of reserved_words word) Name

-- the symbol of one byte
abbrev pub single_symbol : ℕ → Option (Kind × ℕ)
single_symbol first = option_map (λ code. (Sym code, 1)) (code_of symbols (first ∷ []))

-- the longest symbol that a byte and those after it begin with
abbrev pub symbol_at : ℕ → List ℕ → Option (Kind × ℕ)
symbol_at first [] = single_symbol first
symbol_at first (second ∷ bytes) =
    option_map_or (λ code. Some (Sym code, 2)) (code_of symbols (first ∷ second ∷ [])) (single_symbol first)

-- the token at the front, by its kind and its number of bytes; None where no token begins there
unfoldable pub token_at : List ℕ → Option (Kind × ℕ)
token_at [] = None
token_at (b ∷ bytes) =
    if begins_name b then Some (word_kind (take (name_len (b ∷ bytes)) (b ∷ bytes)), name_len (b ∷ bytes))
    else (if is_ascii_digit b then Some (Number, number_len (b ∷ bytes))
    else (if is_quote b then option_map (λ n. (Text, n)) (text_len bytes)
    else symbol_at b bytes))

-- the lexer takes so many bytes
abbrev pub FitsLexer : ℕ → Type 0
FitsLexer n = n ≤ LEXER_LIMIT
