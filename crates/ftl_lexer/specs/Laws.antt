-- What holds of the tokens of every line.
use Rattle.std.specs.Prelude.{ℕ, ◌-◌, ◌<◌, ◌≤◌, List, [], ◌∷◌, ⊤, length, map, take, drop, slice_range, IsTrue}
use Rattle.std.specs.List.{AllByRecursion, list_all}
use Rattle.ftl_lexer.specs.declared.kinds.Kind.{Kind}
use Rattle.ftl_lexer.specs.declared.kinds.Token.{Token}
use Rattle.ftl_lexer.specs.Forms.{is_blank}
use Rattle.ftl_lexer.specs.Tokens.{bytes_of_token}
use Rattle.ftl_lexer.specs.Cut.{Lexeme, HasForm}

-- each token begins at or after the end of the one before, has a byte, and ends within the line
abbrev pub SpansAscend : ℕ → ℕ → List Token → Type 0
SpansAscend from end [] = ⊤
SpansAscend from end (t ∷ tokens) = (from ≤ t.lo) × (t.lo < t.hi) × (t.hi ≤ end) × SpansAscend t.hi end tokens

-- each token has bytes of its kind's form
abbrev pub HaveForms : List Lexeme → Type 0
HaveForms [] = ⊤
HaveForms (l ∷ lexemes) = HasForm l.0 l.1 × HaveForms lexemes

-- nothing but blanks stands from one place to another
abbrev pub AreBlanks : List ℕ → ℕ → ℕ → Type 0
AreBlanks line from to = IsTrue (list_all is_blank (slice_range line from to))

-- nothing but blanks stands between a place and the first token, between two tokens, and after the last one
abbrev pub GapsAreBlank : List ℕ → ℕ → List Token → Type 0
GapsAreBlank line from [] = AreBlanks line from (length line)
GapsAreBlank line from (t ∷ tokens) = AreBlanks line from t.lo × GapsAreBlank line t.hi tokens

-- no more than so many bytes at the front have the form of a token
abbrev pub IsLongest : List ℕ → ℕ → Type 0
IsLongest bytes len = (n : ℕ) (kind : Kind) → n ≤ length bytes → HasForm kind (take n bytes) → n ≤ len

-- the tokens of a line: their spans ascend, each has the form of its kind, each byte outside of them is blank, and no
-- longer one begins where one of them begins
pub record AreTokens (line : List ℕ) (tokens : List Token) : Type 0 where
  pub spans : SpansAscend 0 (length line) tokens
  pub forms : HaveForms (map (λ t. (t.kind, bytes_of_token line t)) tokens)
  pub gaps : GapsAreBlank line 0 tokens
  pub longest : AllByRecursion (λ t. IsLongest (drop t.lo line) (t.hi - t.lo)) tokens
