-- The tokens of which the grammars of queries and of commands speak: a constructor for each word of queries and each
-- symbol, where those that stand in the same places share one, and names, numbers and texts with their bytes. A name or
-- text of more than 32 bytes is the empty one.
use Rattle.std.specs.Prelude.{ℕ, ◌-◌, Bool, true, false, not, List, [], ◌∷◌, take, drop, length, map, slice_get, unwrap_or}
use Rattle.std.specs.List.{list_any}
use Rattle.fixed_point.specs.declared.variants.BoundForm.{BoundForm}
use Rattle.fixed_point.specs.declared.variants.BoundForm.TheVariants as bounds
use Rattle.fixed_point.specs.declared.variants.UntilForm.{UntilForm}
use Rattle.fixed_point.specs.declared.variants.UntilForm.TheVariants as untils
use Rattle.fixed_point.specs.declared.variants.SubName.{SubName}
use Rattle.fixed_point.specs.declared.variants.SubName.TheVariants as subs
use Rattle.case_table.specs.declared.compare.Op.{Op}
use Rattle.case_table.specs.declared.compare.Op.TheVariants as ops
use Rattle.ftl_lexer.specs.declared.kinds.Kind.{Kind}
use Rattle.ftl_lexer.specs.declared.kinds.Kind.TheVariants as kinds
use Rattle.ftl_lexer.specs.Tokens.{lexemes}
use Rattle.ftl_lexer.specs.Cut.{Lexeme}
use Rattle.ftl_parser.specs.declared.prefix.Prefix.{Prefix}
use Rattle.ftl_parser.specs.declared.prefix.Prefix.TheVariants as prefixes
use Rattle.ftl_parser.specs.Words.{is_short, short_word}

pub data Piece : Type 0 where
  RETRIEVE : Piece
  FROM : Piece
  WHERE : Piece
  AND : Piece
  OR : Piece
  -- TRUE, FALSE
  TRUTH : Bool → Piece
  -- NOT, NEXTTIME, EVENTUALLY, ALWAYS
  PREFIX : Prefix → Piece
  -- EVENTUALLY_WITHIN, EVENTUALLY_AFTER, ALWAYS_FOR
  BOUNDED : BoundForm → Piece
  -- UNTIL, UNTIL_WITHIN, UNTIL_AFTER
  UNTIL : UntilForm → Piece
  INSIDE : Piece
  OUTSIDE : Piece
  DIST : Piece
  SPHERE : Piece
  TIME : Piece
  -- value, updatetime, function
  PART : SubName → Piece
  -- ( ) [ ] , . + - * <-
  OPEN : Piece
  CLOSE : Piece
  OPEN_SQUARE : Piece
  CLOSE_SQUARE : Piece
  COMMA : Piece
  POINT : Piece
  PLUS : Piece
  MINUS : Piece
  STAR : Piece
  ARROW : Piece
  -- < <= = != >= >
  COMPARISON : Op → Piece
  NAME : List ℕ → Piece
  NUMBER : List ℕ → Piece
  -- a text by what stands between its quotes
  TEXT : List ℕ → Piece
  -- a word that no query has, by its code
  WORD : ℕ → Piece

-- the words of queries and the parts of attributes, in the order of their codes
abbrev pub reserved : List Piece
reserved =
    RETRIEVE ∷ FROM ∷ WHERE ∷ TRUTH true ∷ TRUTH false ∷ PREFIX prefixes.Not ∷ AND ∷ OR
    ∷ UNTIL untils.Plain ∷ UNTIL untils.Within ∷ UNTIL untils.After ∷ PREFIX prefixes.Next
    ∷ PREFIX prefixes.Eventually ∷ BOUNDED bounds.Within ∷ BOUNDED bounds.After ∷ PREFIX prefixes.Always ∷ BOUNDED bounds.Always
    ∷ INSIDE ∷ OUTSIDE ∷ DIST ∷ SPHERE ∷ TIME
    ∷ PART subs.Value ∷ PART subs.UpdateTime ∷ PART subs.Function
    ∷ []

-- the symbols, in the order of their codes
abbrev pub signs : List Piece
signs =
    OPEN ∷ CLOSE ∷ OPEN_SQUARE ∷ CLOSE_SQUARE ∷ COMMA ∷ POINT ∷ PLUS ∷ MINUS ∷ STAR
    ∷ COMPARISON ops.Eq ∷ COMPARISON ops.Ne ∷ COMPARISON ops.Le ∷ COMPARISON ops.Ge ∷ COMPARISON ops.Lt ∷ COMPARISON ops.Gt ∷ ARROW
    ∷ []

-- what stands between the quotes of a text
abbrev pub unquoted : List ℕ → List ℕ
unquoted text = take (length text - 2) (drop 1 text)

abbrev pub piece_of : Kind → List ℕ → Piece
piece_of kinds.Name bytes = NAME (short_word bytes)
piece_of kinds.Number bytes = NUMBER bytes
piece_of kinds.Text bytes = TEXT (short_word (unquoted bytes))
-- no symbol has a code after that of the last one
piece_of (kinds.Sym code) bytes = unwrap_or (slice_get signs code) ARROW
piece_of (kinds.Key code) bytes = unwrap_or (slice_get reserved code) (WORD code)

-- tokens by their kinds and bytes
abbrev pub pieces : List Lexeme → List Piece
pieces = map (λ t. piece_of t.0 t.1)

-- the tokens of a line from one of them on, by their kinds and bytes
abbrev pub lexemes_from : ℕ → List ℕ → List Lexeme
lexemes_from from line = drop from (lexemes line)

-- the same tokens
abbrev pub pieces_from : ℕ → List ℕ → List Piece
pieces_from from line = pieces (lexemes_from from line)

-- a name or a text that has more bytes than a word
abbrev pub is_long : Kind → List ℕ → Bool
is_long kinds.Name bytes = not (is_short bytes)
is_long kinds.Number bytes = false
is_long kinds.Text bytes = not (is_short (unquoted bytes))
is_long (kinds.Sym code) bytes = false
is_long (kinds.Key code) bytes = false

-- there is such a one among the tokens
abbrev pub has_long : List Lexeme → Bool
has_long = list_any (λ t. is_long t.0 t.1)
