-- A line that is read as a data command begins with a word of data commands, and one on registered queries with a word of
-- those: the first token of a line is the whole word at its front.
use Rattle.std.proofs.Common.{◌≡◌, ℕ, zero, suc, ◌+◌, ◌-◌, ◌≤◌, ◌&&◌, nat_le, leb, true, false, Bool, List, [], ◌∷◌, take, None, Some, Option, Ok, Err, Result, refl, sym, ap, ◌∙◌, inl, inr, ◌⊎◌, eqb, one-add, arith}
use Rattle.std.proofs.lemmas.Bool.{cases_Bool, and_parts}
use Rattle.std.proofs.lemmas.Bool.Decides.{Decides-eqb, nat_tests}
use Rattle.std.proofs.lemmas.Slice.Eq.{bytes_eq-Decides}
use Rattle.std.specs.Prelude.{bytes_eq, codes, if◌then◌else◌, option_and_then, option_map, slice_get, unwrap_or}
use Rattle.std.specs.List.{list_all}
use Rattle.std.specs.Option.{option_map_or}
use Rattle.std.specs.Result.{result_err, result_unwrap_or}
use Rattle.std.specs.Char.{is_ascii_digit}
use Rattle.case_table.specs.Language.{reserved_words, symbols}
use Rattle.case_table.specs.Rows.{code_of, word_of}
use Rattle.case_table.specs.declared.key.TheConstants.{CLASS, DROP, INSERT, KEEP, REGION, REMOVE, TICK, UPDATE, WATCH}
use Rattle.ftl_lexer.specs.declared.kinds.Kind.{Kind}
use Rattle.ftl_lexer.specs.declared.kinds.Kind.TheVariants as kinds
use Rattle.ftl_lexer.specs.Cut.{Lexeme, cut}
use Rattle.ftl_lexer.specs.Forms.{after_blanks, begins_name, is_blank, is_quote, name_len, number_len, single_symbol, symbol_at, text_len, token_at, word_kind}
use Rattle.command_text.specs.Grammar.{Notes, SpellsCommand, SpellsParts, by_parts, first_notes, good, part_before, part_verb, token_of}
use Rattle.command_text.specs.GrammarLaws.{IsReadByTheGrammar, SpellsWithinLimits}
use Rattle.command_text.specs.Line.{IsRead, is_comment}
use Rattle.command_text.specs.Parts.{Parts, Verb, ◌▸◌, parts}
use Rattle.command_text.specs.Piece.{Piece, WORD, line_pieces, piece_of}
use Rattle.command_text.specs.Tree
use Rattle.command_text.specs.Tree.{CommandTree}
use Rattle.command_text.proofs.grammar.FirstWords.{bad_has_none, put_first}
use Rattle.ftl_lexer.specs.Tokens.{bad_place, lexemes}
use Rattle.ftl_lexer.specs.declared.kinds.Token.{Token}
use Rattle.ftl_parser.specs.Piece as token
use Rattle.ftl_parser.specs.Piece.{ARROW, reserved, signs}
use Rattle.ftl_parser.proofs.reader.TableLemmas.{in_table}
use Rattle.users.specs.Sender.{first_word, word_at}
use Rattle.feeds_meaning.specs.Lines.{data_words, is_among, is_data, is_data_line, is_of_queries, is_query_line, query_words}

-- ---- The first token stands after the blanks

-- a token of so many bytes at the front
abbrev lexeme_by : List ℕ → Kind × ℕ → Lexeme
lexeme_by bytes t = (t.0, take t.1 bytes)

abbrev lexeme_at : List ℕ → Option Lexeme
lexeme_at bytes = option_map (lexeme_by bytes) (token_at bytes)

token_first : (bytes : List ℕ) (found : Option (Kind × ℕ)) (l : Lexeme) (rest : List Lexeme) (later : ℕ → Option (List Lexeme)) →
    option_and_then (λ t. option_map (λ more. (t.0, take t.1 bytes) ∷ more) (later (t.1 - 1))) found ≡ Some (l ∷ rest) →
    option_map (lexeme_by bytes) found ≡ Some l
token_first bytes None l rest later e = absurd (cc)
token_first bytes (Some t) l rest later e = ap Some (put_first (t.0, take t.1 bytes) l (later (t.1 - 1)) rest e)

cut_first : (line : List ℕ) (l : Lexeme) (rest : List Lexeme) → cut 0 line ≡ Some (l ∷ rest) → lexeme_at (after_blanks line) ≡ Some l
unfolding cut
cut_first [] l rest e = absurd (cc)
cut_first (b ∷ bytes) l rest e =
    elim (cases_Bool (is_blank b)) [
      | inl blank ↦
          let same : after_blanks (b ∷ bytes) ≡ after_blanks bytes = rw (blank, one-add) refl in
          ap lexeme_at same ∙ cut_first bytes l rest (rw blank at e)
      | inr other ↦
          let same : after_blanks (b ∷ bytes) ≡ b ∷ bytes = rw other refl in
          ap lexeme_at same ∙ token_first (b ∷ bytes) (token_at (b ∷ bytes)) l rest (λ n. cut n bytes) (rw other at e)
    ]

-- ---- A reserved word at the front is the whole word

-- the word and its code
record IsWordAt (bytes word : List ℕ) (code : ℕ) : Type 0 where
  whole : word_at bytes ≡ word
  coded : code_of reserved_words word ≡ Some code

pair_is : (a c : Kind) (b d : List ℕ) → ◌≡◌ {A = Option Lexeme} (Some (a, b)) (Some (c, d)) → (a ≡ c) × (b ≡ d)
pair_is a c b d e =
    let all : (o : Option Lexeme) → Lexeme = λ o. unwrap_or o (a, b) in
    (ap (λ (o : Option Lexeme). (all o).0) e, ap (λ (o : Option Lexeme). (all o).1) e)

abbrev as_text : ℕ → Kind × ℕ
as_text n = (kinds.Text, n)

abbrev as_single : ℕ → Kind × ℕ
as_single c = (kinds.Sym c, 1)

abbrev as_double : ℕ → Option (Kind × ℕ)
as_double c = Some (kinds.Sym c, 2)

kind_coded : (o : Option ℕ) (code : ℕ) → option_map_or (λ c. kinds.Key c) o kinds.Name ≡ kinds.Key code → o ≡ Some code
kind_coded None code e = absurd (cc)
kind_coded (Some c) code e = cc

no_text : (o : Option ℕ) (bytes word : List ℕ) (code : ℕ) →
    option_map (lexeme_by bytes) (option_map as_text o) ≡ Some (kinds.Key code, word) → ⊥
no_text None bytes word code e = absurd (cc)
no_text (Some n) bytes word code e = let both = pair_is kinds.Text (kinds.Key code) (take n bytes) word e in let bad = both.0 in absurd (cc)

no_single : (o : Option ℕ) (bytes word : List ℕ) (code : ℕ) →
    option_map (lexeme_by bytes) (option_map as_single o) ≡ Some (kinds.Key code, word) → ⊥
no_single None bytes word code e = absurd (cc)
no_single (Some c) bytes word code e = let both = pair_is (kinds.Sym c) (kinds.Key code) (take 1 bytes) word e in let bad = both.0 in absurd (cc)

no_double : (o : Option ℕ) (first : ℕ) (bytes word : List ℕ) (code : ℕ) →
    option_map (lexeme_by bytes) (option_map_or as_double o (single_symbol first)) ≡ Some (kinds.Key code, word) → ⊥
no_double None first bytes word code e = no_single (code_of symbols (first ∷ [])) bytes word code e
no_double (Some c) first bytes word code e = let both = pair_is (kinds.Sym c) (kinds.Key code) (take 2 bytes) word e in let bad = both.0 in absurd (cc)

no_symbol : (b : ℕ) (later bytes word : List ℕ) (code : ℕ) →
    option_map (lexeme_by bytes) (symbol_at b later) ≡ Some (kinds.Key code, word) → ⊥
no_symbol b [] bytes word code e = no_single (code_of symbols (b ∷ [])) bytes word code e
no_symbol b (second ∷ later) bytes word code e = no_double (code_of symbols (b ∷ second ∷ [])) b bytes word code e

not_a_word : (digit quote : Bool) (number : ℕ) (text : Option ℕ) (b : ℕ) (later bytes word : List ℕ) (code : ℕ) →
    option_map (lexeme_by bytes) (if digit then Some (kinds.Number, number) else (if quote then option_map as_text text else symbol_at b later))
    ≡ Some (kinds.Key code, word) → ⊥
not_a_word true quote number text b later bytes word code e =
    let both = pair_is kinds.Number (kinds.Key code) (take number bytes) word e in let bad = both.0 in absurd (cc)
not_a_word false true number text b later bytes word code e = no_text text bytes word code e
not_a_word false false number text b later bytes word code e = no_symbol b later bytes word code e

key_at : (bytes word : List ℕ) (code : ℕ) → lexeme_at bytes ≡ Some (kinds.Key code, word) → IsWordAt bytes word code
unfolding token_at
key_at [] word code e = absurd (cc)
key_at (b ∷ bytes) word code e =
    elim (cases_Bool (begins_name b)) [
      | inl begins ↦
          let all : List ℕ = take (name_len (b ∷ bytes)) (b ∷ bytes) in
          let both = pair_is (word_kind all) (kinds.Key code) all word (rw begins at e) in
          record {
            whole = rw begins both.1;
            coded = ap (code_of reserved_words) (sym both.1) ∙ kind_coded (code_of reserved_words all) code both.0;
          }
      | inr other ↦ absurd (not_a_word (is_ascii_digit b) (is_quote b) (number_len (b ∷ bytes)) (text_len bytes) b bytes (b ∷ bytes) word code (rw other at e))
    ]

-- ---- No two reserved words have one code

-- each row has a code above those before it
abbrev ascends : ℕ → List (List ℕ × ℕ) → Bool
ascends n [] = true
ascends n (r ∷ rows) = nat_le n r.1 && ascends (r.1 + 1) rows

code_from : (n : ℕ) (rows : List (List ℕ × ℕ)) (word : List ℕ) (code : ℕ) → ascends n rows ≡ true → code_of rows word ≡ Some code → n ≤ code
code_from n [] word code up e = absurd (cc)
code_from n (r ∷ rows) word code up e =
    let parts = and_parts (leb n r.1) (ascends (r.1 + 1) rows) up in
    elim (cases_Bool (bytes_eq r.0 word)) [
      | inl same ↦ let found : Some r.1 ≡ Some code = rw same at e in let is : r.1 ≡ code = cc in grind (arith, nat_tests)
      | inr other ↦ let later = code_from (r.1 + 1) rows word code parts.1 (rw other at e) in grind (arith, nat_tests)
    ]

word_by_code : (n : ℕ) (rows : List (List ℕ × ℕ)) (word : List ℕ) (code : ℕ) → ascends n rows ≡ true → code_of rows word ≡ Some code →
    word_of rows code ≡ Some word
word_by_code n [] word code up e = absurd (cc)
word_by_code n (r ∷ rows) word code up e =
    let parts = and_parts (leb n r.1) (ascends (r.1 + 1) rows) up in
    elim (cases_Bool (bytes_eq r.0 word)) [
      | inl same ↦
          let found : Some r.1 ≡ Some code = rw same at e in
          let is : r.1 ≡ code = cc in
          rw ((Decides-eqb r.1 code).1 is) (ap Some ((bytes_eq-Decides r.0 word).0 same))
      | inr other ↦
          let later : code_of rows word ≡ Some code = rw other at e in
          let past = code_from (r.1 + 1) rows word code parts.1 later in
          let differs : eqb r.1 code ≡ false = grind (arith, nat_tests) in
          rw differs (word_by_code (r.1 + 1) rows word code parts.1 later)
    ]

pub word_of_code : (word : List ℕ) (code : ℕ) → code_of reserved_words word ≡ Some code → word_of reserved_words code ≡ Some word
unfolding reserved_words
word_of_code word code e = word_by_code 0 reserved_words word code refl e

-- ---- A token that is a word of commands

abbrev is_word_of : ℕ → Piece → Bool
is_word_of code (WORD other) = eqb other code
is_word_of code p = false

abbrev is_no_word : Piece → Bool
is_no_word (WORD other) = false
is_no_word p = true

no_word_is : (p : Piece) (code : ℕ) → is_no_word p ≡ true → p ≡ WORD code → ⊥
no_word_is p code none e = let bad : true ≡ false = sym none ∙ ap is_no_word e in absurd (cc)

-- a reserved word is told by its place or by its code
word_code : (o : Option Piece) (k code : ℕ) → ((p : Piece) → o ≡ Some p → is_no_word p ≡ true) → unwrap_or o (WORD k) ≡ WORD code → k ≡ code
word_code None k code others e = cc
word_code (Some p) k code others e = absurd (no_word_is p code (others p refl) e)

found_in : (table : List Piece) (k : ℕ) (p : Piece) → list_all is_no_word table ≡ true → slice_get table k ≡ Some p → is_no_word p ≡ true
found_in [] k p h e = absurd (cc)
found_in (q ∷ table) zero p h e = let same : q ≡ p = cc in ap is_no_word (sym same) ∙ (and_parts (is_no_word q) (list_all is_no_word table) h).0
found_in (q ∷ table) (suc k) p h e = found_in table k p (and_parts (is_no_word q) (list_all is_no_word table) h).1 e

key_of_word : (kind : Kind) (bytes : List ℕ) (code : ℕ) → piece_of kind bytes ≡ WORD code → kind ≡ kinds.Key code
key_of_word kinds.Name bytes code e = absurd (cc)
key_of_word kinds.Number bytes code e = absurd (cc)
key_of_word kinds.Text bytes code e = absurd (cc)
key_of_word (kinds.Sym k) bytes code e = absurd (no_word_is (unwrap_or (slice_get signs k) ARROW) code (in_table is_no_word signs k ARROW refl refl) e)
key_of_word (kinds.Key k) bytes code e = ap kinds.Key (word_code (slice_get reserved k) k code (λ p found. found_in reserved k p refl found) e)

-- ---- The word of a command

verb_first : {w : List ℕ} {ps : Parts} {s t : Notes} {xs : List Piece} → SpellsParts (Verb w ▸ ps) s t xs → (later : List Piece) × (xs ≡ token_of w ∷ later)
verb_first (part_before (part_verb is) more) = (_, refl)

-- what is known of the tokens of every line
abbrev pub AreCut : List ℕ → Type 0
AreCut line = bad_place line ≡ None → cut 0 line ≡ Some (lexemes line)

first_is : (line word : List ℕ) (all : List Lexeme) (later : List Piece) (code : ℕ) → cut 0 line ≡ Some all → token.pieces all ≡ WORD code ∷ later →
    word_of reserved_words code ≡ Some word → first_word line ≡ word
first_is line word [] later code e h is = absurd (cc)
first_is line word (l ∷ all) later code e h is =
    let first : piece_of l.0 l.1 ≡ WORD code = cc in
    let key : l.0 ≡ kinds.Key code = key_of_word l.0 l.1 code first in
    let here : lexeme_at (after_blanks line) ≡ Some (l.0, l.1) = cut_first line l all e in
    let at = key_at (after_blanks line) l.1 code (here ∙ ap (λ k. Some (k, l.1)) key) in
    let both : Some l.1 ≡ Some word = sym (word_of_code l.1 code at.coded) ∙ is in
    let same : l.1 ≡ word = cc in
    at.whole ∙ same

no_tokens : (r : Result (List Token) ℕ) (place : ℕ) → result_err r ≡ Some place → result_unwrap_or r [] ≡ []
no_tokens (Ok tokens) place e = absurd (cc)
no_tokens (Err place) other e = refl

-- a command that its tokens spell begins with this word
verb_is : (line word : List ℕ) (ps : Parts) (s t : Notes) (code : ℕ) → AreCut line → SpellsParts (Verb word ▸ ps) s t (line_pieces line) →
    token_of word ≡ WORD code → word_of reserved_words code ≡ Some word → first_word line ≡ word
verb_is line word ps s t code cuts spells coded is = by_place (bad_place line) refl
  where
    tokens : (later : List Piece) × (line_pieces line ≡ token_of word ∷ later)
    tokens = verb_first spells

    by_place : (bad : Option ℕ) → bad_place line ≡ bad → first_word line ≡ word
    by_place (Some place) e = let both : [] ≡ token_of word ∷ tokens.0 = sym (bad_has_none line place e) ∙ tokens.1 in absurd (cc)
    by_place None e = first_is line word (lexemes line) tokens.0 code (cuts e) (tokens.1 ∙ ap (λ p. p ∷ tokens.0) coded) is

data_first : (line : List ℕ) (c : CommandTree) (s t : Notes) → AreCut line → is_data c ≡ true → SpellsParts (parts c) s t (line_pieces line) →
    is_data_line line ≡ true
unfolding reserved_words
data_first line (Tree.Class name capacity point attributes) s t cuts h d =
    ap (is_among data_words) (verb_is line (codes "class") _ s t CLASS cuts d refl refl)
data_first line (Tree.Region name points) s t cuts h d = ap (is_among data_words) (verb_is line (codes "region") _ s t REGION cuts d refl refl)
data_first line (Tree.Insert class name place sets) s t cuts h d =
    ap (is_among data_words) (verb_is line (codes "insert") _ s t INSERT cuts d refl refl)
data_first line (Tree.Update name place sets) s t cuts h d =
    ap (is_among data_words) (verb_is line (codes "update") _ s t UPDATE cuts d refl refl)
data_first line (Tree.Remove name) s t cuts h d = ap (is_among data_words) (verb_is line (codes "remove") _ s t REMOVE cuts d refl refl)
data_first line (Tree.Tick ticks) s t cuts h d = ap (is_among data_words) (verb_is line (codes "tick") _ s t TICK cuts d refl refl)
data_first line c s t cuts h d = absurd (cc)

query_first : (line : List ℕ) (c : CommandTree) (s t : Notes) → AreCut line → is_of_queries c ≡ true → SpellsParts (parts c) s t (line_pieces line) →
    is_query_line line ≡ true
unfolding reserved_words
query_first line (Tree.Watch name span q) s t cuts h d = ap (is_among query_words) (verb_is line (codes "watch") _ s t WATCH cuts d refl refl)
query_first line (Tree.Keep name span q) s t cuts h d = ap (is_among query_words) (verb_is line (codes "keep") _ s t KEEP cuts d refl refl)
query_first line (Tree.Drop name) s t cuts h d = ap (is_among query_words) (verb_is line (codes "drop") _ s t DROP cuts d refl refl)
query_first line c s t cuts h d = absurd (cc)

parts_spelled : (c : CommandTree) (s t : Notes) (xs : List Piece) → SpellsCommand c s t xs → SpellsParts (parts c) s t xs
parts_spelled c s t xs (by_parts d) = d

module _ (limit : ℕ) (line : List ℕ) (c : CommandTree) (cuts : AreCut line) (grammar : IsReadByTheGrammar limit line) (read : IsRead limit line c) where
  spelled_by : (b : Bool) → is_comment line ≡ b → (c ≡ Tree.Nothing) ⊎ SpellsWithinLimits line c
  spelled_by true e = inl ((grammar.comment e c).0 read).1
  spelled_by false e = inr ((grammar.other e c).0 read).1

  pub data_line : is_data c ≡ true → is_data_line line ≡ true
  data_line h = elim (spelled_by (is_comment line) refl) [
    | inl none ↦ let bad : true ≡ false = sym h ∙ ap is_data none in absurd (cc)
    | inr spells ↦ data_first line c (first_notes line) good cuts h (parts_spelled c (first_notes line) good (line_pieces line) spells)
  ]

  pub query_line : is_of_queries c ≡ true → is_query_line line ≡ true
  query_line h = elim (spelled_by (is_comment line) refl) [
    | inl none ↦ let bad : true ≡ false = sym h ∙ ap is_of_queries none in absurd (cc)
    | inr spells ↦ query_first line c (first_notes line) good cuts h (parts_spelled c (first_notes line) good (line_pieces line) spells)
  ]
