-- For this crate and for the crates above: a line that is read as a command begins with the command's first word.
use Rattle.command_text.proofs.Names.{◌≡◌, ℕ, zero, suc, ◌+◌, ◌-◌, ◌≤◌, ◌&&◌, nat_le, leb, leb-true, and_parts, Bool, true, false, List, [], ◌∷◌, ◌++◌, take, map, Option, None, Some, option_map, option_and_then, option_map_or, unwrap_or, refl, sym, ap, ◌∙◌, arith, inl, inr, ◌⊎◌, cases_Bool, bytes_eq, bytes_eq-Decides, code_of, reserved_words, Kind, Lexeme, lexemes, bytes_of_token, HasForm, HaveForms, bad_place, cut, token_at, is_blank, Part, Parts, Piece, NAME, piece_of, line_pieces, CommandTree, Notes, token_of, SpellsPart, part_verb, SpellsParts, no_parts, last_part, last_query, part_before, SpellsCommand, by_parts, Read, at_first, if◌then◌else◌, command_of, is_comment, command_in, IsTrue, WORD, before, first_notes, good, is_short, is_verb, is_word, length, reserved, short_word, slice_get_past, ◌<◌, CLASS}
use Rattle.std.proofs.Common.{one-add, eqb}
use Rattle.std.proofs.lemmas.Bool.Decides.{Decides-eqb}
use Rattle.ftl_lexer.specs.declared.kinds.Kind.TheVariants as kinds
use Rattle.ftl_lexer.proofs.Cuts.{cut_from_good}
use Rattle.ftl_lexer.proofs.Shapes.{tokens_have_forms}
use Rattle.ftl_lexer.proofs.Spans.{no_tokens}
use Rattle.ftl_lexer.specs.Forms.{after_blanks}
use Rattle.command_text.specs.Tree
use Rattle.command_text.specs.FirstWord.{word_in, word_before, word_of_command, begins_with, BeginsWithItsWord}
use Rattle.ftl_parser.specs.Piece as token
use Rattle.ftl_parser.proofs.canonical.TextTokens.{few_is}
use Rattle.ftl_parser.proofs.reader.TableLemmas.{is_fixed, sign_fixed, word_fixed}
use Rattle.command_text.specs.Parts.{is_of_commands}
use Rattle.command_text.proofs.grammar.DerivedCommands.{command_derived}
use Rattle.command_text.proofs.reader.TableLemmas.{sign_is_other, word_is_coded}

-- ---- The first token's bytes stand after the blanks

-- bytes that stand at the front of what comes after the blanks
record StandsFirst (line word : List ℕ) : Type 0 where
  len : ℕ
  is : word ≡ take len (after_blanks line)

pub put_first : (first l : Lexeme) (o : Option (List Lexeme)) (rest : List Lexeme) → option_map (λ more. first ∷ more) o ≡ Some (l ∷ rest) → first ≡ l
put_first first l None rest e = absurd (cc)
put_first first l (Some more) rest e = let same : first ∷ more ≡ l ∷ rest = cc in cc

token_first : (line : List ℕ) (found : Option (Kind × ℕ)) (l : Lexeme) (rest : List Lexeme) (later : ℕ → Option (List Lexeme)) →
    option_and_then (λ t. option_map (λ more. (t.0, take t.1 line) ∷ more) (later (t.1 - 1))) found ≡ Some (l ∷ rest)
    → (n : ℕ) × (l.1 ≡ take n line)
token_first line None l rest later e = absurd (cc)
token_first line (Some t) l rest later e =
    (t.1, sym (ap (λ (x : Lexeme). x.1) (put_first (t.0, take t.1 line) l (later (t.1 - 1)) rest e)))

cut_first : (line : List ℕ) (l : Lexeme) (rest : List Lexeme) → cut 0 line ≡ Some (l ∷ rest) → StandsFirst line l.1
unfolding cut
cut_first [] l rest e = absurd (cc)
cut_first (b ∷ bytes) l rest e =
    elim (cases_Bool (is_blank b)) [
      | inl blank ↦
          let later = cut_first bytes l rest (rw blank at e) in
          let same : after_blanks (b ∷ bytes) ≡ after_blanks bytes = rw (blank, one-add) refl in
          record { len = later.len; is = later.is ∙ ap (take later.len) (sym same) }
      | inr other ↦
          let here = token_first (b ∷ bytes) (token_at (b ∷ bytes)) l rest (λ n. cut n bytes) (rw other at e) in
          let same : after_blanks (b ∷ bytes) ≡ b ∷ bytes = rw other refl in
          record { len = here.0; is = here.1 ∙ ap (take here.0) (sym same) }
    ]

-- so these bytes begin with them
begins_by : (n : ℕ) (bytes word : List ℕ) → word ≡ take n bytes → begins_with bytes word ≡ true
begins_by n bytes [] e = refl
begins_by zero bytes (w ∷ word) e = absurd (cc)
begins_by (suc n) [] (w ∷ word) e = absurd (cc)
begins_by (suc n) (b ∷ bytes) (w ∷ word) e =
    let first : w ≡ b = cc in
    let same : eqb w b ≡ true = (Decides-eqb w b).1 first in
    let later : word ≡ take n bytes = cc in
    rw same (begins_by n bytes word later)

-- ---- Words and tokens

-- each row has a code above those before it
abbrev ascends : ℕ → List (List ℕ × ℕ) → Bool
ascends n [] = true
ascends n (r ∷ rows) = nat_le n r.1 && ascends (r.1 + 1) rows

-- a code that is found isn't below the first
code_from : (n : ℕ) (rows : List (List ℕ × ℕ)) (word : List ℕ) (code : ℕ) → ascends n rows ≡ true → code_of rows word ≡ Some code → n ≤ code
code_from n [] word code up e = absurd (cc)
code_from n (r ∷ rows) word code up e =
    let parts = and_parts (leb n r.1) (ascends (r.1 + 1) rows) up in
    let least : n ≤ r.1 = leb-true n r.1 parts.0 in
    elim (cases_Bool (bytes_eq r.0 word)) [
      | inl same ↦ let found : Some r.1 ≡ Some code = rw same at e in let is : r.1 ≡ code = cc in omega arith
      | inr other ↦ let later = code_from (r.1 + 1) rows word code parts.1 (rw other at e) in omega arith
    ]

-- two words with the same code are one
same_code : (n : ℕ) (rows : List (List ℕ × ℕ)) (word other : List ℕ) (code : ℕ) → ascends n rows ≡ true → code_of rows word ≡ Some code
    → code_of rows other ≡ Some code → word ≡ other
same_code n [] word other code up e h = absurd (cc)
same_code n (r ∷ rows) word other code up e h =
    let parts = and_parts (leb n r.1) (ascends (r.1 + 1) rows) up in
    elim (cases_Bool (bytes_eq r.0 word)) [
      | inl a ↦
          let found : Some r.1 ≡ Some code = rw a at e in
          let is : r.1 ≡ code = cc in
          elim (cases_Bool (bytes_eq r.0 other)) [
            | inl b ↦ sym ((bytes_eq-Decides r.0 word).0 a) ∙ (bytes_eq-Decides r.0 other).0 b
            | inr b ↦ let later = code_from (r.1 + 1) rows other code parts.1 (rw b at h) in absurd (omega arith)
          ]
      | inr a ↦
          let later : code_of rows word ≡ Some code = rw a at e in
          elim (cases_Bool (bytes_eq r.0 other)) [
            | inl b ↦
                let found : Some r.1 ≡ Some code = rw b at h in
                let is : r.1 ≡ code = cc in
                let past = code_from (r.1 + 1) rows word code parts.1 later in
                absurd (omega arith)
            | inr b ↦ same_code (r.1 + 1) rows word other code parts.1 later (rw b at h)
          ]
    ]

key_word : (kind : Kind) (bytes word : List ℕ) (code : ℕ) → HasForm kind bytes → piece_of kind bytes ≡ WORD code
    → code_of reserved_words word ≡ Some code → bytes ≡ word
unfolding reserved_words
key_word kinds.Name bytes word code form e found = absurd (cc)
key_word kinds.Number bytes word code form e found = absurd (cc)
key_word kinds.Text bytes word code form e found = absurd (cc)
key_word (kinds.Sym k) bytes word code form e found = absurd (sign_is_other code k e)
key_word (kinds.Key k) bytes word code form e found =
    same_code 0 reserved_words bytes word code refl (form ∙ ap Some (word_is_coded code k e)) found

-- what is known of a first word
record IsFirst (word : List ℕ) : Type 0 where
  some : 0 < length word
  short : is_short word ≡ true
  coded : (code : ℕ) → code_of reserved_words word ≡ Some code → piece_of (kinds.Key code) word ≡ WORD code

verb_is : (word : List ℕ) → IsTrue (is_verb word) → IsFirst word
verb_is word verb =
    let parts = and_parts (is_word word) _ verb in
    let others = and_parts (leb (length word) 7) _ parts.1 in
    record { some = not_empty word parts.0; short = few_is word (omega (arith, leb-true (length word) 7 others.0)); coded = λ code found. by_code code found others.1 }
  where
    not_empty : (word : List ℕ) → is_word word ≡ true → 0 < length word
    not_empty [] h = absurd (cc)
    not_empty (b ∷ bytes) h = omega arith

    by_code : (code : ℕ) → code_of reserved_words word ≡ Some code → option_map_or is_of_commands (code_of reserved_words word) true ≡ true
        → piece_of (kinds.Key code) word ≡ WORD code
    by_code code found h =
        let high : nat_le CLASS code ≡ true = sym (ap (λ o. option_map_or is_of_commands o true) found) ∙ h in
        ap (λ (o : Option Piece). unwrap_or o (WORD code)) (slice_get_past reserved code (leb-true CLASS code high))

-- a short word that stands for itself, or for a longer one
short_is : (bytes word : List ℕ) → IsFirst word → NAME (short_word bytes) ≡ NAME (short_word word) → bytes ≡ word
short_is bytes word first e =
    let both : short_word bytes ≡ short_word word = cc in
    let same : short_word bytes ≡ word = both ∙ ap (λ b. if b then word else []) first.short in
    by_length (is_short bytes) same
  where
    by_length : (b : Bool) → (if b then bytes else []) ≡ word → bytes ≡ word
    by_length true h = h
    by_length false h = absurd (omega (arith, first.some, ap length h))

fixed_is_no_name : (p : Piece) (n : List ℕ) → is_fixed p ≡ true → p ≡ NAME n → ⊥
fixed_is_no_name p n fixed e = let bad : true ≡ false = sym fixed ∙ ap is_fixed e in absurd (cc)

name_word : (kind : Kind) (bytes word : List ℕ) → IsFirst word → piece_of kind bytes ≡ NAME (short_word word) → bytes ≡ word
name_word kinds.Name bytes word first e = short_is bytes word first e
name_word kinds.Number bytes word first e = absurd (cc)
name_word kinds.Text bytes word first e = absurd (cc)
name_word (kinds.Sym k) bytes word first e = absurd (fixed_is_no_name _ (short_word word) (sign_fixed k) e)
name_word (kinds.Key k) bytes word first e = absurd (fixed_is_no_name _ (short_word word) (word_fixed k) e)

word_by : (kind : Kind) (bytes word : List ℕ) (o : Option ℕ) → HasForm kind bytes → IsTrue (is_verb word) → code_of reserved_words word ≡ o
    → piece_of kind bytes ≡ piece_of (option_map_or (λ code. kinds.Key code) o kinds.Name) word → bytes ≡ word
word_by kind bytes word None form verb found e = name_word kind bytes word (verb_is word verb) e
word_by kind bytes word (Some code) form verb found e = key_word kind bytes word code form (e ∙ (verb_is word verb).coded code found) found

-- a token that a word spells has the bytes of the word
same_word : (kind : Kind) (bytes word : List ℕ) → HasForm kind bytes → IsTrue (is_verb word) → piece_of kind bytes ≡ token_of word → bytes ≡ word
same_word kind bytes word form verb e = word_by kind bytes word (code_of reserved_words word) form verb refl e

-- ---- The first token of a command

-- what begins with a word has its token first
abbrev HasFirst : List ℕ → List Piece → Type 0
HasFirst word xs = (word ≡ []) ⊎ (IsTrue (is_verb word) × (later : List Piece) × (xs ≡ token_of word ∷ later))

part_has : {p : Part} {s t : Notes} {xs : List Piece} → SpellsPart p s t xs → HasFirst (word_in p) xs
part_has (part_verb is) = inr (is, [], refl)
part_has _ = inl refl

more_has : (word : List ℕ) (xs ys : List Piece) → HasFirst word xs → HasFirst word (xs ++ ys)
more_has word xs ys (inl none) = inl none
more_has word xs ys (inr some) = inr (some.0, some.1 ++ ys, ap (λ all. all ++ ys) some.2)

parts_have : {ps : Parts} {s t : Notes} {xs : List Piece} → SpellsParts ps s t xs → HasFirst (word_before ps) xs
parts_have no_parts = inl refl
parts_have (last_part d) = part_has d
parts_have (last_query d) = inl refl
parts_have (part_before {p = p} {xs = xs} {ys = ys} d e) = more_has (word_in p) xs ys (part_has d)

command_has : {c : CommandTree} {s t : Notes} {xs : List Piece} → SpellsCommand c s t xs → HasFirst (word_of_command c) xs
command_has (by_parts d) = parts_have d

-- ---- The line

-- by the tokens of the line
line_by : (line word : List ℕ) (all : List Lexeme) (later : List Piece) → cut 0 line ≡ Some all → HaveForms all → IsTrue (is_verb word)
    → token.pieces all ≡ token_of word ∷ later → begins_with (after_blanks line) word ≡ true
line_by line word [] later e forms verb h = absurd (cc)
line_by line word (l ∷ all) later e forms verb h =
    let first : piece_of l.0 l.1 ≡ token_of word = cc in
    let at = cut_first line l all e in
    begins_by at.len (after_blanks line) word (sym (same_word l.0 l.1 word forms.0 verb first) ∙ at.is)

pub bad_has_none : (line : List ℕ) (place : ℕ) → bad_place line ≡ Some place → line_pieces line ≡ []
bad_has_none line place e = ap token.pieces (ap (map (λ t. (t.kind, bytes_of_token line t))) (no_tokens line place e))

word_first : (line word : List ℕ) (bad : Option ℕ) → bad_place line ≡ bad → HasFirst word (line_pieces line) → begins_with (after_blanks line) word ≡ true
word_first line word bad e (inl none) = rw none refl
word_first line word (Some place) e (inr some) = let none = bad_has_none line place e in let both : [] ≡ token_of word ∷ some.1 = sym none ∙ some.2 in absurd (cc)
word_first line word None e (inr some) = line_by line word (lexemes line) some.1 (cut_from_good line e) (tokens_have_forms line) some.0 some.2

-- by what was read of it
found_first : (line : List ℕ) (found : Read CommandTree) → command_of (at_first line) ≡ found
    → begins_with (after_blanks line) (word_of_command (unwrap_or (option_map (λ x. x.0) found) Tree.Nothing)) ≡ true
found_first line None e = refl
found_first line (Some x) e =
    word_first line (word_of_command x.0) (bad_place line) refl (command_has (command_derived (line_pieces line) x.0 (first_notes line) x.1 e))

line_first : (line : List ℕ) (b : Bool) → begins_with (after_blanks line)
    (word_of_command (unwrap_or (option_map (λ x. x.0) (if b then Some (Tree.Nothing, before [] good) else command_of (at_first line))) Tree.Nothing)) ≡ true
line_first line true = refl
line_first line false = found_first line (command_of (at_first line)) refl

pub begins_with_its_word : (line : List ℕ) → BeginsWithItsWord line
unfolding command_in
begins_with_its_word line = line_first line (is_comment line)
