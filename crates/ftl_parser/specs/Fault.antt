-- What `parse` answers.
use Rattle.std.specs.Prelude.{◌≡◌, ℕ, ◌+◌, ◌<◌, ◌≤◌, List, ◌++◌, length, take, None, Some}
use Rattle.std.specs.List.{AllByRecursion}
use Rattle.ftl_parser.specs.declared.fault.ParseFault.{ParseFault}
use Rattle.ftl_parser.specs.declared.fault.ParseFault.TheVariants as faults
use Rattle.ftl_parser.specs.Tree.{QueryTree}
use Rattle.ftl_lexer.specs.Cut.{Lexeme, HasForm}
use Rattle.ftl_parser.specs.Piece.{Piece, piece_of, pieces, has_long}
use Rattle.ftl_parser.specs.Grammar.{SpellsQuery}
use Rattle.ftl_parser.specs.Marks.{first_unfit}
use Rattle.ftl_parser.specs.Sizes.{first_too_large}

-- a token that a line can have: its bytes have the form of its kind
abbrev pub IsToken : Piece → Type 0
IsToken p = (t : Lexeme) × HasForm t.0 t.1 × (piece_of t.0 t.1 ≡ p)

-- some query begins with these tokens, and goes on with others that a line can have
abbrev pub BeginsQuery : List Piece → Type 0
BeginsQuery tokens = (rest : List Piece) × AllByRecursion IsToken rest × (q : QueryTree) × SpellsQuery q (tokens ++ rest)

-- the tokens are no query: some query begins with this many of them, and none with more, whatever comes after them
pub record IsStuckAt (tokens : List Piece) (place : ℕ) : Type 0 where
  pub none : (q : QueryTree) → SpellsQuery q tokens → ⊥
  pub within : place ≤ length tokens
  pub begins : BeginsQuery (take place tokens)
  pub longest : (n : ℕ) → place < n → n ≤ length tokens → (rest : List Piece) (q : QueryTree) → SpellsQuery q (take n tokens ++ rest) → ⊥

-- the tokens spell the query, each number fits its place, and no size passes its limit
pub record ReadsQuery (tokens : List Lexeme) (q : QueryTree) : Type 0 where
  pub spelled : SpellsQuery q (pieces tokens)
  pub fit : first_unfit spelled ≡ None
  pub small : first_too_large (has_long tokens) q ≡ None

-- the tokens spell a query, and this is its first number that doesn't fit its place
pub record HasUnfit (tokens : List Piece) (place : ℕ) : Type 0 where
  pub q : QueryTree
  pub spelled : SpellsQuery q tokens
  pub unfit : first_unfit spelled ≡ Some place

-- why the tokens from a place of the line on are not read
abbrev pub ExplainsTokens : ℕ → List Lexeme → ParseFault → Type 0
ExplainsTokens from tokens (faults.BadSyntax place) = (n : ℕ) × (place ≡ from + n) × IsStuckAt (pieces tokens) n
ExplainsTokens from tokens (faults.NumberRange place) = (n : ℕ) × (place ≡ from + n) × HasUnfit (pieces tokens) n
ExplainsTokens from tokens (faults.TooLarge size) =
    (q : QueryTree) × (d : SpellsQuery q (pieces tokens)) × (first_unfit d ≡ None) × (first_too_large (has_long tokens) q ≡ Some size)
ExplainsTokens from tokens faults.NoMemory = Unit {0}
