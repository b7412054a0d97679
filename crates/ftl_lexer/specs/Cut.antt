-- The tokens of some bytes by kind and bytes alone, with no places: what a text that is written by parts is cut into.
use Rattle.std.specs.Prelude.{◌≡◌, ℕ, zero, suc, ◌-◌, ◌==◌, ◌&&◌, Bool, false, not, List, [], ◌∷◌, take, length, Option, Some, None, option_map, option_and_then, IsTrue, codes, if◌then◌else◌}
use Rattle.std.specs.List.{list_all, list_any}
use Rattle.case_table.specs.Rows.{code_of}
use Rattle.case_table.specs.Language.{reserved_words, symbols}
use Rattle.ftl_lexer.specs.declared.kinds.Kind.{Kind}
use Rattle.ftl_lexer.specs.declared.kinds.Kind.TheVariants.{Name, Number, Text, Sym, Key}
use Rattle.ftl_lexer.specs.Forms.{is_blank, is_quote, begins_name, continues_name, digits_len, number_len, text_len, token_at}

-- a token by its kind and its bytes
abbrev pub Lexeme : Type 0
Lexeme = Kind × List ℕ

-- one token before the others
abbrev pub put_before : Lexeme → Option (List Lexeme) → Option (List Lexeme)
put_before first = option_map (λ later. first ∷ later)

-- the tokens of the bytes after the ones to skip; None where no token begins at some byte
unfoldable pub cut : ℕ → List ℕ → Option (List Lexeme)
cut skip [] = Some []
cut (suc skip) (b ∷ bytes) = cut skip bytes
cut zero (b ∷ bytes) =
    if is_blank b then cut 0 bytes
    else option_and_then (λ t. put_before (t.0, take t.1 (b ∷ bytes)) (cut (t.1 - 1) bytes)) (token_at (b ∷ bytes))

-- a letter or `_`, then letters, digits and `_`
abbrev pub is_word : List ℕ → Bool
is_word [] = false
is_word (b ∷ bytes) = begins_name b && list_all continues_name bytes

-- digits, and a point and digits or not
abbrev pub is_number : List ℕ → Bool
is_number bytes = not (digits_len bytes == 0) && (number_len bytes == length bytes)

abbrev pub has_no_quote : List ℕ → Bool
has_no_quote bytes = list_all (λ b. not (is_quote b)) bytes

-- bytes between two quotes, none of them a quote: the first quote after the first byte is the last byte
abbrev pub IsQuoted : List ℕ → Type 0
IsQuoted [] = ⊥
IsQuoted (b ∷ bytes) = IsTrue (is_quote b) × (text_len bytes ≡ Some (length (b ∷ bytes)))

-- bytes that a token of this kind may have
abbrev pub HasForm : Kind → List ℕ → Type 0
HasForm Name word = IsTrue (is_word word) × (code_of reserved_words word ≡ None)
HasForm (Key code) word = code_of reserved_words word ≡ Some code
HasForm Number bytes = IsTrue (is_number bytes)
HasForm Text bytes = IsQuoted bytes
HasForm (Sym code) bytes = code_of symbols bytes ≡ Some code

-- the symbols of one byte that begin none of two: ( ) [ ] , . + - * =
abbrev pub stands_alone : ℕ → Bool
stands_alone b = list_any (λ s. s == b) (codes "()[],.+-*=")
