-- How a reader tells tokens apart: words and symbols by their codes, the others by their bytes.
use Rattle.std.specs.Prelude.{ℕ, Bool, false, ◌==◌, is_some, Option, None, Some, List, length}
use Rattle.case_table.specs.declared.compare.Op.TheVariants as ops
use Rattle.case_table.specs.declared.symbol.TheConstants as symbols
use Rattle.ftl_parser.specs.Piece.{Piece, OPEN, CLOSE, OPEN_SQUARE, CLOSE_SQUARE, COMMA, POINT, PLUS, MINUS, STAR, ARROW, COMPARISON, NAME, NUMBER, TEXT, WORD, signs}

-- the code of a symbol; any other token has none of these codes
abbrev pub sign_code : Piece → ℕ
sign_code OPEN = symbols.OPEN_ROUND
sign_code CLOSE = symbols.CLOSE_ROUND
sign_code OPEN_SQUARE = symbols.OPEN_SQUARE
sign_code CLOSE_SQUARE = symbols.CLOSE_SQUARE
sign_code COMMA = symbols.COMMA
sign_code POINT = symbols.POINT
sign_code PLUS = symbols.PLUS
sign_code MINUS = symbols.MINUS
sign_code STAR = symbols.TIMES
sign_code (COMPARISON ops.Eq) = symbols.EQUAL
sign_code (COMPARISON ops.Ne) = symbols.NOT_EQUAL
sign_code (COMPARISON ops.Le) = symbols.AT_MOST
sign_code (COMPARISON ops.Ge) = symbols.AT_LEAST
sign_code (COMPARISON ops.Lt) = symbols.BELOW
sign_code (COMPARISON ops.Gt) = symbols.ABOVE
sign_code ARROW = symbols.ASSIGN
sign_code p = length signs

abbrev pub is_sign : ℕ → Piece → Bool
is_sign code p = sign_code p == code

-- a word that no query has
abbrev pub is_key : ℕ → Piece → Bool
is_key code (WORD k) = k == code
is_key code p = false

-- the bytes of a name, a number and a text
abbrev pub name_in : Piece → Option (List ℕ)
name_in (NAME bytes) = Some bytes
name_in p = None

abbrev pub number_in : Piece → Option (List ℕ)
number_in (NUMBER bytes) = Some bytes
number_in p = None

abbrev pub text_in : Piece → Option (List ℕ)
text_in (TEXT bytes) = Some bytes
text_in p = None

abbrev pub is_name : Piece → Bool
is_name p = is_some (name_in p)

abbrev pub is_text : Piece → Bool
is_text p = is_some (text_in p)
