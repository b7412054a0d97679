-- The text of a query at the end of a canonical line.
use Rattle.command_text.proofs.Names.{◌≡◌, ℕ, true, false, List, [], ◌∷◌, refl, ap, subst, is_none, AllByRecursion, or_parts, Kind, Lexeme, HaveForms, lexemes, QueryTree, SpellsQuery, first_unfit, piece_lists, texts_alone, token_texts, query_text, IsReadAs, Piece, line_pieces, has_long, is_query_small, IsAscii, IsQuery, is_long, is_short, piece_of, unquoted}
use Rattle.ftl_lexer.specs.declared.kinds.Kind.TheVariants as kinds
use Rattle.ftl_lexer.proofs.Cuts.{cut_from_good}
use Rattle.ftl_lexer.proofs.Shapes.{tokens_have_forms}
use Rattle.ftl_parser.specs.Piece as token
use Rattle.ftl_parser.proofs.grammar.OrderLemmas.{lists-query}
use Rattle.ftl_parser.proofs.canonical.TextReads.{reads_what_is_printed}
use Rattle.ftl_parser.proofs.canonical.TextTokens.{word_is}
use Rattle.command_text.proofs.canonical.TextAscii.{AreAscii, inner, form_ascii}
use Rattle.command_text.proofs.canonical.TextCuts.{IsCut}
use Rattle.ftl_parser.proofs.canonical.TextShapes.{all_front, all_back}
use Rattle.exact.proofs.Truths.{true_from_not}

-- the text in a token, by the texts of the tokens
inner_ascii : (kind : Kind) (bytes : List ℕ) → is_long kind bytes ≡ false
    → AllByRecursion IsAscii (piece_lists texts_alone (piece_of kind bytes)) → IsAscii (inner kind bytes)
inner_ascii kinds.Name bytes short texts = refl
inner_ascii kinds.Number bytes short texts = refl
inner_ascii kinds.Text bytes short texts = subst IsAscii (word_is (unquoted bytes) (true_from_not (is_short (unquoted bytes)) short)) texts.0
inner_ascii (kinds.Sym code) bytes short texts = refl
inner_ascii (kinds.Key code) bytes short texts = refl

lexemes_ascii : (tokens : List Lexeme) → HaveForms tokens → has_long tokens ≡ false
    → AllByRecursion IsAscii (token_texts (token.pieces tokens)) → AreAscii tokens
lexemes_ascii [] forms short texts = tt
lexemes_ascii (t ∷ tokens) forms short texts =
    let parts = or_parts (is_long t.0 t.1) (has_long tokens) short in
    let this : List (List ℕ) = piece_lists texts_alone (piece_of t.0 t.1) in
    let later : List (List ℕ) = token_texts (token.pieces tokens) in (
      form_ascii t.0 t.1 forms.0 (inner_ascii t.0 t.1 parts.0 (all_front IsAscii this later texts)),
      lexemes_ascii tokens forms.1 parts.1 (all_back IsAscii this later texts),
    )

-- its tokens, and that they are read as the query
pub record Tail (q : QueryTree) : Type 0 where
  pub tokens : List Piece
  pub spelled : SpellsQuery q tokens
  pub fit : is_none (first_unfit spelled) ≡ true
  pub small : is_query_small q ≡ true
  pub is_cut : IsCut (query_text q) tokens

pub tail_cut : (q : QueryTree) → IsQuery q → Tail q
unfolding is_query_small
tail_cut q shape =
    let line : List ℕ = query_text q in
    let read : IsReadAs q line = reads_what_is_printed q shape.printable in
    let texts : AllByRecursion IsAscii (token_texts (line_pieces line)) =
    subst (AllByRecursion IsAscii) (lists-query texts_alone read.spelled) shape.ascii in
    record {
      tokens = line_pieces line;
      spelled = read.spelled;
      fit = ap is_none read.fit;
      small = ap is_none shape.lawful.small;
      is_cut = record {
        lexed = lexemes line;
        cut_is = cut_from_good line read.no_bad_token;
        pieces_are = refl;
        short = read.short;
        good = lexemes_ascii (lexemes line) (tokens_have_forms line) read.short texts;
      };
    }
