-- What the words of the program ask for.
use Rattle.std.specs.Prelude.{ℕ, Bool, ◌&&◌, nat_le, List, [], ◌∷◌, length, codes, Option, Some, None, if◌then◌else◌}
use Rattle.std.specs.Char.{is_ascii_digit}
use Rattle.std.specs.List.{list_all}
use Rattle.std.specs.Option.{option_map_or}
use Rattle.std.specs.Str.{bytes_eq}
use Rattle.std.specs.Str.Parse.{digits_value}
use Rattle.domino_run.specs.declared.words.TheConstants.{MOST_DIGITS}
use Rattle.domino_run.specs.declared.words.Words as declared
use Rattle.domino_run.specs.declared.words.Words.TheVariants as words

-- `Bad`: they have no form; `Plain`: the program's name alone; `Generated`: `--gen` and the number of a workload;
-- `Stored`: `--session` and the name under which the text of a session lies
pub data Words : Type 0 where
  Bad : Words
  Plain : Words
  Generated : ℕ → Words
  Stored : List ℕ → Words

-- the same of the program
abbrev pub words_view : declared.Words → Words
words_view words.Bad = Bad
words_view words.Plain = Plain
words_view (words.Generated number) = Generated number
words_view (words.Stored name) = Stored name.now

-- from one to nine digits
abbrev pub is_short_number : List ℕ → Bool
is_short_number text = nat_le 1 (length text) && (nat_le (length text) MOST_DIGITS && list_all is_ascii_digit text)

abbrev pub short_number : List ℕ → Option ℕ
short_number text = if is_short_number text then Some (digits_value 10 text) else None

-- a word that asks for something, and the word after it
abbrev pub asked : List ℕ → List ℕ → Words
asked word value =
    if bytes_eq word (codes "--session") then Stored value
    else if bytes_eq word (codes "--gen") then option_map_or Generated (short_number value) Bad
    else Bad

-- the program's name alone asks for a plain run
abbrev pub words_of : List (List ℕ) → Words
words_of [] = Bad
words_of (name ∷ []) = Plain
words_of (name ∷ word ∷ []) = Bad
words_of (name ∷ word ∷ value ∷ []) = asked word value
words_of (name ∷ word ∷ value ∷ more ∷ others) = Bad
