-- The tokens of a line, as the grammars of commands and of queries have them.
use Rattle.std.specs.Prelude.{ℕ, Bool, not, List}
use Rattle.ftl_lexer.specs.Tokens.{lexemes}
pub use Rattle.ftl_parser.specs.Piece.{Piece, MINUS, OPEN, CLOSE, OPEN_SQUARE, CLOSE_SQUARE, COMMA, COMPARISON, NAME, NUMBER, TEXT, WORD, piece_of}
use Rattle.ftl_parser.specs.Piece as tokens
use Rattle.ftl_parser.specs.Piece.{has_long}

abbrev pub line_pieces : List ℕ → List Piece
line_pieces line = tokens.pieces (lexemes line)

-- no name and no text of the line has more bytes than a word
abbrev pub has_short_words : List ℕ → Bool
has_short_words line = not (has_long (lexemes line))
