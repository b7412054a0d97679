-- What holds of printed queries and of the lines from which they were read.
use Rattle.std.specs.Prelude.{◌≡◌, ℕ, ◌*◌, ◌≤◌, false, List, length, None, sum_by}
use Rattle.ftl_lexer.specs.Tokens.{bad_place, lexemes}
use Rattle.ftl_lexer.specs.Cut.{Lexeme}
use Rattle.ftl_parser.specs.Tree.{QueryTree}
use Rattle.ftl_parser.specs.Piece.{pieces_from, lexemes_from, has_long}
use Rattle.ftl_parser.specs.Grammar.{SpellsQuery}
use Rattle.ftl_parser.specs.Marks.{first_unfit}
use Rattle.ftl_parser.specs.declared.fault.ParseFault.{ParseFault}
use Rattle.ftl_parser.specs.declared.fault.ParseFault.TheVariants.{NoMemory}
use Rattle.ftl_parser.specs.Fault.{ExplainsTokens, ReadsQuery}
use Rattle.ftl_parser.specs.Text.{query_text}
use Rattle.ftl_parser.specs.Lawful.{IsPrintableQuery}

-- the bytes of tokens
abbrev pub token_bytes : List Lexeme → ℕ
token_bytes = sum_by (λ t. length t.1)

-- the text is cut into tokens that spell the query, with each number in the range of its place and no name or text too long
pub record IsReadAs (q : QueryTree) (text : List ℕ) : Type 0 where
  pub no_bad_token : bad_place text ≡ None
  pub spelled : SpellsQuery q (pieces_from 0 text)
  pub fit : first_unfit spelled ≡ None
  pub short : has_long (lexemes text) ≡ false

-- a query that can be printed is read back from its text
abbrev pub ReadsPrintedQuery : Type 0
ReadsPrintedQuery = (q : QueryTree) → IsPrintableQuery q → IsReadAs q (query_text q)

-- what tokens of a line spell is printable, where no name or text among them is too long
abbrev pub PrintsReadQuery : Type 0
PrintsReadQuery = (from : ℕ) (line : List ℕ) (q : QueryTree) → SpellsQuery q (pieces_from from line) → has_long (lexemes_from from line)
    ≡ false → IsPrintableQuery q

-- the printed text has at most four bytes for each byte of the tokens
abbrev pub PrintsQueryShortly : Type 0
PrintsQueryShortly = (from : ℕ) (line : List ℕ) (q : QueryTree) → SpellsQuery q (pieces_from from line) → length (query_text q)
    ≤ 4 * token_bytes (lexemes_from from line)

-- tokens have no more bytes than their line
abbrev pub TokensFit : Type 0
TokensFit = (line : List ℕ) → token_bytes (lexemes line) ≤ length line

-- so the printed text has at most four bytes for each byte of the line
abbrev pub PrintsShorterThanFourLines : Type 0
PrintsShorterThanFourLines = (from : ℕ) (line : List ℕ) (q : QueryTree) → SpellsQuery q (pieces_from from line) → length (query_text q) ≤ 4 * length line

-- a query that was read is read again from its printed text
abbrev pub ReadsQueryAgain : Type 0
ReadsQueryAgain = (from : ℕ) (line : List ℕ) (q : QueryTree) → ReadsQuery (lexemes_from from line) q → (bad_place (query_text q) ≡ None)
    × ReadsQuery (lexemes (query_text q)) q

-- tokens that are read as a query are read as no other, and nothing but want of memory explains that they are not read
abbrev pub ReadsOneQuery : Type 0
ReadsOneQuery = (from : ℕ) (tokens : List Lexeme) (q : QueryTree) → ReadsQuery tokens q → ((r : QueryTree) → ReadsQuery tokens r → r ≡ q)
    × ((fault : ParseFault) → ExplainsTokens from tokens fault → fault ≡ NoMemory)
